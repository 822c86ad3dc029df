use Rattle.std.proofs.Common.{◌≡◌, rules}
use Rattle.plan.proofs.Numbers.{all_numbers}
use Rattle.plan.proofs.equal.same_fields.Goals as goal

pub returns : goal.returns
returns g c =
    let m = g.A.Movement.plan c.args.a.now in
    let n = g.B.Movement.plan c.args.b.now in
    all_numbers _ _ m.pairs _ (record { start = cc; end = cc; exhausted = cc }) (λ k. m.field k ≡ n.field k) c.all.result c.all.ensures.runs (λ a r f' k. search rules) (λ k h. search rules) (λ k h e. search rules)
