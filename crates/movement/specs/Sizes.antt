-- What is asked before a movement is made: first its tables, then its rounds.
use Rattle.std.specs.Prelude.{ℕ, ◌-◌, ◌%◌, Bool, ◌&&◌, List, [], ◌∷◌, ◌==◌, nat_le}
use Rattle.refusal.specs.declared.Refusal.{Refusal}
use Rattle.refusal.specs.declared.Refusal.TheVariants.{TablesOutOfRange, RoundsOutOfRange}
use Rattle.plan.specs.Plan.{within}

abbrev pub sizes : Bool → Bool → List (Bool × Refusal)
sizes tables rounds = (tables, TablesOutOfRange) ∷ (rounds, RoundsOutOfRange) ∷ []

abbrev pub mitchell_sizes : ℕ → ℕ → List (Bool × Refusal)
mitchell_sizes tables rounds = sizes (tables % 2 == 1 && (nat_le 3 tables && nat_le tables 15)) (within tables rounds)

abbrev pub skip_mitchell_sizes : ℕ → ℕ → List (Bool × Refusal)
skip_mitchell_sizes tables rounds = sizes (tables % 2 == 0 && (nat_le 4 tables && nat_le tables 16)) (within (tables - 1) rounds)

abbrev pub howell_sizes : ℕ → ℕ → List (Bool × Refusal)
howell_sizes tables rounds = sizes (tables == 4) (within 7 rounds)
