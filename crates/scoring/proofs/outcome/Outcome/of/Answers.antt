use Rattle.std.proofs.Common.{◌+◌, ◌-◌, arith}
use Rattle.scoring.proofs.Penalties.{penalty_most}
use Rattle.scoring.proofs.outcome.Outcome.of.Goals as goal

pub invariant_of-result : goal.invariant_of-result
invariant_of-result c =
    let s = c.args.c in
    record { within = omega (arith, penalty_most c.args.vulnerable s.doubling (s.level + 6 - s.tricks) (omega arith), c.penalty-penalty.ensures) }
