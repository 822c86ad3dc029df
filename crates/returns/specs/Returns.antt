-- What a return holds, and what it scores.
use Rattle.std.specs.Prelude.{◌≡◌, ℕ, ◌≤◌, ℤ, pos, Some, None, Option}
use Rattle.contract.specs.declared.contract.Declarer.{Declarer}
use Rattle.contract.specs.declared.contract.Denomination.{Denomination}
use Rattle.contract.specs.declared.contract.Doubling.{Doubling}
use Rattle.scoring.specs.Law.{score_on}
use Rattle.returns.specs.declared.returned.Return.{Return}
use Rattle.returns.specs.declared.returned.Return.TheVariants.{Scored, Passed, Averages}

abbrev pub GroupRange : ℕ → Type 0
GroupRange group = group ≤ 3

abbrev pub InRange : ℕ → ℕ → ℕ → Type 0
InRange level tricks group = (1 ≤ level) × (level ≤ 7) × (tricks ≤ 13) × GroupRange group

-- a scored return that holds just these
abbrev pub ScoredFrom : ℕ → Denomination → Doubling → Declarer → ℕ → ℕ → Return → Type 0
ScoredFrom level denomination doubling declarer tricks group (Scored c g) =
    (c.level ≡ level) × (c.denomination ≡ denomination) × (c.doubling ≡ doubling) × (c.declarer ≡ declarer) × (c.tricks ≡ tricks) × (g.number ≡ group)
ScoredFrom level denomination doubling declarer tricks group (Passed g) = ⊥
ScoredFrom level denomination doubling declarer tricks group (Averages ns ew) = ⊥

abbrev pub PassedFrom : ℕ → Return → Type 0
PassedFrom group (Scored c g) = ⊥
PassedFrom group (Passed g) = g.number ≡ group
PassedFrom group (Averages ns ew) = ⊥

-- North-South's score on a board; averages have none
abbrev pub score_of : ℕ → Return → Option ℤ
score_of board (Scored c g) = Some (score_on board c)
score_of board (Passed g) = Some (pos 0)
score_of board (Averages ns ew) = None
