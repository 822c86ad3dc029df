use Rattle.movement.proofs.Same.{same_rotating}
use Rattle.movement.proofs.rotating.Rotating.new.Goals as goal

pub returns-clause-alone : goal.returns-clause-alone
returns-clause-alone g c other tables rounds = same_rotating other _ tables rounds
