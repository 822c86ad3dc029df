-- Where a pair plays by a plan.
use Rattle.std.specs.Prelude.{◌≡◌, ℕ, zero, suc, Some, None, Option, ◌==◌, ◌≢◌, if◌then◌else◌}
use Rattle.plan.specs.declared.side.Side.{Side}
use Rattle.plan.specs.declared.side.Side.TheVariants.{NorthSouth, EastWest}
use Rattle.plan.specs.Plan.{Plan, Seat, sitter}
use Rattle.guide.specs.declared.place.Place.{Place}

-- the seat of a pair and its opponents, by the side on which the pair sits
abbrev pub seat_on : Side → ℕ → ℕ → ℕ → Seat
seat_on NorthSouth pair opponents set = (pair, opponents, set)
seat_on EastWest pair opponents set = (opponents, pair, set)

abbrev pub Plays : Plan → ℕ → ℕ → Place → Type 0
Plays m round pair p = m.seat round p.table ≡ Some (seat_on p.side pair p.opponents p.set)

-- the pair is at no table, on neither side
abbrev pub SitsOut : Plan → ℕ → ℕ → Type 0
SitsOut m round pair = (table : ℕ) (s : Seat) (side : Side) → m.seat round table ≡ Some s → sitter side s ≢ pair

-- the place of a pair at a table with this seat
abbrev pub place_at : ℕ → ℕ → Option Seat → Option Place
place_at table pair None = None
place_at table pair (Some s) =
    if pair == s.0 then Some (record { table = table; side = NorthSouth; opponents = s.1; set = s.2 })
    else (if pair == s.1 then Some (record { table = table; side = EastWest; opponents = s.0; set = s.2 }) else None)

-- the first of two places that is one
abbrev pub either : Option Place → Option Place → Option Place
either None p = p
either (Some p) q = Some p

-- the place of a pair at one of the first n tables, and among all tables
abbrev pub place_among : Plan → ℕ → ℕ → ℕ → Option Place
place_among m round pair zero = None
place_among m round pair (suc n) = either (place_among m round pair n) (place_at (suc n) pair (m.seat round (suc n)))

abbrev pub place_of : Plan → ℕ → ℕ → Option Place
place_of m round pair = place_among m round pair m.tables
