-- Two rotating movements are the same where their tables and rounds are.
use mathlib.Core.HLevel.{is_prop→PathP}
use Rattle.std.proofs.Common.{◌≡◌}
use Rattle.std.specs.Prelude.{IsTrue, is_none}
use Rattle.refusal.specs.Questions.{first_no}
use Rattle.std.proofs.Math.Bool.{Bool-set}
use Rattle.movement.specs.declared.rotating.Rotating.{Rotating}

pub same_rotating : {W : Type 0} {g : _} (a b : Rotating W g) → a.tables ≡ b.tables → a.rounds ≡ b.rounds → a ≡ b
same_rotating {g = g} a b tables rounds = λ i. record {
  tables = tables i;
  rounds = rounds i;
  walk = a.walk;
  asked = is_prop→PathP (λ j. IsTrue (is_none (first_no (g.questions (tables j) (rounds j))))) (λ j. Bool-set _ _) a.asked b.asked i;
}
