use Rattle.std.proofs.Common.{rules}
use Rattle.plan.specs.Agreement.{SameRound}
use Rattle.plan.proofs.Numbers.{all_numbers}
use Rattle.plan.proofs.equal.same_seats.Goals as goal

pub returns : goal.returns
returns g c =
    let m = g.A.Movement.plan c.args.a.now in
    let n = g.B.Movement.plan c.args.b.now in
    all_numbers _ _ m.rounds _ (record { start = cc; end = cc; exhausted = cc }) (SameRound m n) c.all.result c.all.ensures.runs (λ a r f' k. search rules) (λ k h. search rules) (λ k h e. search rules)
