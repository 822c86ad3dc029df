-- What the walks of a Mitchell and a skip Mitchell keep, at their sizes.
use Rattle.std.proofs.Common.{ℕ, ◌-◌, ◌/◌, IsTrue, is_none, arith, nat_le, if◌then◌else◌}
use Rattle.std.proofs.lemmas.Bool.Decides.{nat_tests}
use Rattle.refusal.specs.Questions.{first_no}
use Rattle.plan.specs.Turns.{Turns}
use Rattle.plan.proofs.Mitchells.{mitchell_turns, skip_mitchell_turns}
use Rattle.movement.specs.Sizes.{mitchell_sizes, skip_mitchell_sizes}

pub straight_turns : (tables rounds : ℕ) → IsTrue (is_none (first_no (mitchell_sizes tables rounds))) → Turns tables rounds (λ r. r - 1)
straight_turns tables rounds asked =
    mitchell_turns tables rounds (grind (arith, nat_tests)) (grind (arith, nat_tests)) (grind (arith, nat_tests), grind (arith, nat_tests))

pub skipping_turns : (tables rounds : ℕ) → IsTrue (is_none (first_no (skip_mitchell_sizes tables rounds))) → Turns tables rounds (λ r. if nat_le r (tables / 2) then r - 1 else r)
skipping_turns tables rounds asked =
    skip_mitchell_turns tables rounds (grind (arith, nat_tests)) (grind (arith, nat_tests)) (grind (arith, nat_tests)) (grind (arith, nat_tests))
