use Rattle.std.proofs.Common.{refl}
use Rattle.scoring.specs.Law.{declarer_score}
use Rattle.comparison.specs.Ways.{imp_step}
use Rattle.plan.specs.Movements.{wrap}
use Rattle.trials.proofs.figures.worked_figures.Goals as goal

pub returns : goal.returns
unfolding declarer_score imp_step wrap
returns c = record { hold = (refl, (refl, (refl, (refl, (refl, (refl, (refl, (refl, (refl, (refl, (refl, tt))))))))))); count = refl }
