-- What stands on a guide card.
use Rattle.std.specs.Prelude.{ℕ, zero, suc, List, [], ◌++◌, Some, None, codes, decimal, Option}
use Rattle.plan.specs.Side.{side_name}
use Rattle.plan.specs.Boards.{first_board, last_board, boards_text}
use Rattle.plan.specs.Plan.{Plan}
use Rattle.guide.specs.declared.place.Place.{Place}
use Rattle.guide.specs.Places.{place_of}

-- as `table 3, East-West against pair 8`
abbrev pub place_text : Place → List ℕ
place_text p = codes "table " ++ (decimal p.table ++ (codes ", " ++ (side_name p.side ++ (codes " against pair " ++ decimal p.opponents))))

-- a round of the evening, with so many boards to a set
abbrev pub line_text : ℕ → Option Place → ℕ → List ℕ
line_text round None boards = codes "  round " ++ (decimal round ++ codes ": sits out\n")
line_text round (Some p) boards = codes "  round " ++ (decimal round ++ (codes ": " ++ (place_text p ++ (codes ", " ++ (boards_text (first_board boards p.set) (last_board boards p.set) ++ codes "\n")))))

-- the first rounds, each with its line
abbrev pub lines_text : Plan → ℕ → ℕ → ℕ → List ℕ
lines_text m pair boards zero = []
lines_text m pair boards (suc r) = lines_text m pair boards r ++ line_text (suc r) (place_of m (suc r) pair) boards

abbrev pub heading : ℕ → ℕ → List ℕ
heading pair field = codes "Pair " ++ (decimal pair ++ (codes ", field " ++ (decimal field ++ codes "\n")))

-- the whole card of a pair
abbrev pub card_text : Plan → ℕ → ℕ → List ℕ
card_text m pair boards = heading pair (m.field pair) ++ lines_text m pair boards m.rounds
