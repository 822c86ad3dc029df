use Rattle.std.proofs.Common.{◌≡◌, ℕ, List, [], ◌++◌, Some, None, Contains, codes, sym, ◌∙◌, append-nil, Bor}
use Rattle.std.proofs.lemmas.Bool.Decides.{Decides-eqb}
use Rattle.std.proofs.lemmas.List.{append_cancel_left}
use Rattle.std.proofs.lemmas.Slice.Eq.{strip_prefix_is}
use Rattle.returns.specs.declared.average.Average.{Average}
use Rattle.returns.specs.declared.returned.Return.TheVariants.{Scored, Passed, Averages}
use Rattle.slip.specs.Letters.{average_text}
use Rattle.slip.specs.Parts.{Takes, Whole, Always, IsAverages}
use Rattle.slip.specs.Slips.{slip_of}
use Rattle.slip.proofs.Symbols.{averages, every_average}
use Rattle.slip.proofs.reader.read_averages.Goals as goal

no_east_west : {input rest : List ℕ} {ns : Average} {behind : Bor (List ℕ)} → input ≡ codes "AVE " ++ rest → Takes (Contains averages) average_text Always rest (Some (ns, behind))
    → Takes (Contains averages) average_text Always behind.now None → Whole IsAverages slip_of input None
no_east_west {rest} word first none = record {
  stands = tt;
  exact = elim [
    | Averages ns ew ↦ λ is e.
        let behind = first.exact ns (average_text ew) (every_average ns) tt (append_cancel_left (codes "AVE ") (average_text ns ++ average_text ew) rest (e ∙ word)) in
        absurd (none.exact ew [] (every_average ew) tt (append-nil (average_text ew) ∙ sym behind.1))
    | Scored c g ↦ λ is e. absurd is
    | Passed g ↦ λ is e. absurd is
  ];
}

pub returns-in_err-east_west : goal.returns-in_err-east_west
returns-in_err-east_west c =
    let word = strip_prefix_is Decides-eqb c.args.input.now (codes "AVE ") (Some c.in_ok-rest.rest) c.in_ok-rest.ensures.cases in
    rw c.from_residual-in_err-east_west.ensures (no_east_west word c.in_ok-north_south.ensures c.in_err-east_west.ensures)
