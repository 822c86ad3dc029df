use Rattle.std.proofs.Common.{◌+◌, ◌-◌, pos, ◌-ℤ◌, ◌∙◌, arith}
use Rattle.std.proofs.lemmas.Int.{ints}
use Rattle.plan.proofs.Wrapping.{wrap_from}
use Rattle.movement.proofs.circle.Circle.back.Goals as goal

pub returns-clause-value : goal.returns-clause-value
returns-clause-value c =
    let n = c.args.self.size in
    let t = c.args.start in
    let k = c.args.steps in
    c.wrap.ensures.value ∙ wrap_from n (pos t -ℤ pos k) 1 (t + (n - k)) (omega arith) (omega arith) (omega (arith, ints))
