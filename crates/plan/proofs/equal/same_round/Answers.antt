use Rattle.std.proofs.Common.{◌≡◌, rules}
use Rattle.plan.proofs.Numbers.{all_numbers}
use Rattle.plan.proofs.equal.same_round.Goals as goal

pub returns : goal.returns
returns g c =
    let m = g.A.Movement.plan c.args.a.now in
    let n = g.B.Movement.plan c.args.b.now in
    let r = c.args.round in
    all_numbers _ _ m.tables _ (record { start = cc; end = cc; exhausted = cc }) (λ t. m.seat r t ≡ n.seat r t) c.all.result c.all.ensures.runs (λ a r f' k. search rules) (λ k h. search rules) (λ k h e. search rules)
