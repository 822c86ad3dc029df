-- The parts of an outcome add up to what declarer's side scores.
use Rattle.std.proofs.Common.{◌≡◌, Bool, pos, neg_ℤ, sym, ap, ◌∙◌}
use Rattle.std.proofs.lemmas.Bool.{le-leb, lt-leb, cond-true, cond-false}
use Rattle.contract.specs.declared.contract.Contract.{Contract}
use Rattle.scoring.specs.declared.outcome.Outcome.{Outcome}
use Rattle.scoring.specs.declared.outcome.Outcome.TheVariants.{Made, Down}
use Rattle.scoring.specs.Law.{needed, OutcomeOf, outcome_points, declarer_score}

pub outcome_scores : (v : Bool) (c : Contract) (o : Outcome) → OutcomeOf v c o → outcome_points o ≡ declarer_score v c
unfolding declarer_score
outcome_scores v c (Made m) h =
    ap pos (simp (h.1, h.2, h.3, h.4, h.5)) ∙ sym (cond-true _ _ _ (le-leb (needed c) c.tricks h.0))
outcome_scores v c (Down u) h =
    ap (λ n. neg_ℤ (pos n)) h.2 ∙ sym (cond-false _ _ _ (lt-leb (needed c) c.tricks h.0))
