-- The plan of a movement: who sits where in each round, with which boards.
use Rattle.std.specs.Prelude.{ℕ, Bool, ◌&&◌, Option, nat_le}
use Rattle.plan.specs.declared.side.Side.{Side}
use Rattle.plan.specs.declared.side.Side.TheVariants.{NorthSouth, EastWest}

-- the North-South pair, the East-West pair and the set of boards at an occupied table
abbrev pub Seat : Type 0
Seat = ℕ × ℕ × ℕ

pub record Plan : Type 0 where
  pub tables : ℕ
  pub rounds : ℕ
  pub sets : ℕ
  pub pairs : ℕ
  -- the field of a pair
  pub field : ℕ → ℕ
  -- the seat of a round and a table, or nothing where the table is empty
  pub seat : ℕ → ℕ → Option Seat

abbrev pub sitter : Side → Seat → ℕ
sitter NorthSouth s = s.0
sitter EastWest s = s.1

abbrev pub opposite : Side → Side
opposite NorthSouth = EastWest
opposite EastWest = NorthSouth

abbrev pub set_of : Seat → ℕ
set_of s = s.2

-- k is one of the numbers 1 to n
abbrev pub within : ℕ → ℕ → Bool
within n k = nat_le 1 k && nat_le k n
