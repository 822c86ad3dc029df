use Rattle.std.proofs.Common.{ap, length, rules}
use Rattle.std.specs.List.{between}
use Rattle.slip.proofs.Found.{symbol_found, symbol_none}
use Rattle.slip.proofs.symbol.take_symbol.Goals as goal

pub returns-in_err-symbol : goal.returns-in_err-symbol
returns-in_err-symbol g c = rw c.from_residual.ensures (symbol_none g.S.Symbol.text c.args.all.now c.args.input.now (search rules))

pub returns : goal.returns
returns g c =
    let input = c.args.input.now in
    symbol_found g.S.Symbol.text c.args.all.now input g.met.S.Symbol.apart _ _ (search rules) (search rules) (ap (λ t. between (length t) (length input) input) (search rules))
