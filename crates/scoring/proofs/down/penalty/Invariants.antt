use Rattle.std.proofs.Common.{◌≡◌}
use Rattle.scoring.specs.Law.{penalty}
use Rattle.scoring.proofs.down.penalty.Given as goal

abbrev pub invariant-loop-place : goal.invariant-loop-place
invariant-loop-place l = l.sum ≡ penalty l.vulnerable l.doubling l.place
