-- What two plans may have in common.
use Rattle.std.specs.Prelude.{◌≡◌, ℕ}
use Rattle.plan.specs.Plan.{Plan}
use Rattle.plan.specs.Laws.{In}

abbrev pub SameSizes : Plan → Plan → Type 0
SameSizes m n = (m.tables ≡ n.tables) × (m.rounds ≡ n.rounds) × (m.sets ≡ n.sets) × (m.pairs ≡ n.pairs)

-- for the pairs of the first
abbrev pub SameFields : Plan → Plan → Type 0
SameFields m n = (p : ℕ) → In m.pairs p → m.field p ≡ n.field p

-- at the tables of the first, in one round
abbrev pub SameRound : Plan → Plan → ℕ → Type 0
SameRound m n r = (t : ℕ) → In m.tables t → m.seat r t ≡ n.seat r t

abbrev pub SameSeats : Plan → Plan → Type 0
SameSeats m n = (r : ℕ) → In m.rounds r → SameRound m n r
