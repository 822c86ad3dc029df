use Rattle.std.proofs.Common.{rules}
use Rattle.scoring.proofs.Outcomes.{outcome_scores}
use Rattle.scoring.proofs.scorer.declarer_score.Goals as goal

pub returns : goal.returns
returns c =
    let e = outcome_scores c.args.vulnerable c.args.c c.of.result c.of.ensures in
    search rules
