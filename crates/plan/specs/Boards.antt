-- The boards of a set.
use Rattle.std.specs.Prelude.{ℕ, ◌+◌, ◌-◌, ◌*◌, ◌==◌, Bool, List, [], ◌∷◌, ◌++◌, codes, decimal, if◌then◌else◌}
use Rattle.refusal.specs.declared.Refusal.{Refusal}
use Rattle.refusal.specs.declared.Refusal.TheVariants.{BoardsPerSetOutOfRange}
use Rattle.plan.specs.Plan.{within}

-- with so many boards to a set, set s holds these boards and those between them
abbrev pub first_board : ℕ → ℕ → ℕ
first_board boards s = (s - 1) * boards + 1

abbrev pub last_board : ℕ → ℕ → ℕ
last_board boards s = s * boards

-- what is asked before boards are put into sets
abbrev pub boards_range : ℕ → List (Bool × Refusal)
boards_range boards = (within 4 boards, BoardsPerSetOutOfRange) ∷ []

-- as `board 7` or `boards 7 to 8`
abbrev pub boards_text : ℕ → ℕ → List ℕ
boards_text first last = if first == last then codes "board " ++ decimal first else codes "boards " ++ (decimal first ++ (codes " to " ++ decimal last))
