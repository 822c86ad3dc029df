-- Who is vulnerable on which board.
use Rattle.std.specs.Prelude.{ℕ, ◌+◌, ◌%◌, Bool, true, false, not, List, [], ◌∷◌, slice_index_or}
use Rattle.contract.specs.declared.contract.Declarer.{Declarer}
use Rattle.contract.specs.declared.contract.Declarer.TheVariants.{North, East, South, West}
use Rattle.contract.specs.declared.vulnerability.Vulnerability.{Vulnerability}
use Rattle.contract.specs.declared.vulnerability.Vulnerability.TheVariants.{Neither, NorthSouth, EastWest, Both}

-- boards 1 to 16
abbrev pub cycle : List Vulnerability
cycle = Neither ∷ NorthSouth ∷ EastWest ∷ Both ∷
    NorthSouth ∷ EastWest ∷ Both ∷ Neither ∷
    EastWest ∷ Both ∷ Neither ∷ NorthSouth ∷
    Both ∷ Neither ∷ NorthSouth ∷ EastWest ∷ []

-- board b + 16 is as board b, so 0 is as 16
abbrev pub vulnerability_of : ℕ → Vulnerability
vulnerability_of board = slice_index_or cycle ((board + 15) % 16) Both

abbrev pub north_south : Declarer → Bool
north_south North = true
north_south East = false
north_south South = true
north_south West = false

-- whether declarer's side is vulnerable
abbrev pub vulnerable : Vulnerability → Declarer → Bool
vulnerable Neither declarer = false
vulnerable NorthSouth declarer = north_south declarer
vulnerable EastWest declarer = not (north_south declarer)
vulnerable Both declarer = true
