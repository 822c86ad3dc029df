-- What an occupied table tells.
use Rattle.std.proofs.Common.{◌≡◌, ℕ, Some, None, arith}
use Rattle.std.proofs.lemmas.Bool.Decides.{nat_tests}
use Rattle.plan.specs.Plan.{Seat}
use Rattle.plan.specs.Movements.{seated}
use Rattle.plan.specs.Laws.{In}

pub seated_at : (rounds tables : ℕ) (who : ℕ → ℕ → Seat) (r t : ℕ) (s : Seat) → seated rounds tables who r t ≡ Some s → In rounds r × In tables t × (who r t ≡ s)
seated_at rounds tables who r t s e = (grind (arith, nat_tests), grind (arith, nat_tests), grind (arith, nat_tests))

pub seated_outside : (rounds tables : ℕ) (who : ℕ → ℕ → Seat) (r t : ℕ) → (In rounds r × In tables t → ⊥) → seated rounds tables who r t ≡ None
seated_outside rounds tables who r t h = grind (arith, nat_tests)
