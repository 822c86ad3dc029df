-- What a plan must keep to be that of a movement.
use Rattle.std.specs.Prelude.{◌≡◌, ℕ, ◌≤◌, Some, None, ◌≢◌}
use Rattle.plan.specs.declared.side.Side.{Side}
use Rattle.plan.specs.Plan.{Plan, Seat, sitter, opposite, set_of}

-- k is one of the numbers 1 to n
abbrev pub In : ℕ → ℕ → Type 0
In n k = (1 ≤ k) × (k ≤ n)

pub record Laws (m : Plan) : Type 0 where
  pub tables_in_range : In 16 m.tables
  pub rounds_in_range : In 16 m.rounds
  pub sets_in_range : In 16 m.sets
  pub pairs_in_range : (2 ≤ m.pairs) × (m.pairs ≤ 32)
  -- each pair is in field 1 or 2, and what is no pair is in none
  pub field_of_pair : (p : ℕ) → In m.pairs p → In 2 (m.field p)
  pub no_field_outside : (p : ℕ) → (In m.pairs p → ⊥) → m.field p ≡ 0
  pub empty_outside : (r t : ℕ) → (In m.rounds r × In m.tables t → ⊥) → m.seat r t ≡ None
  -- the numbers in a seat are in range, and its two pairs differ
  pub pair_in_range : (r t : ℕ) (s : Seat) (side : Side) → m.seat r t ≡ Some s → In m.pairs (sitter side s)
  pub set_in_range : (r t : ℕ) (s : Seat) → m.seat r t ≡ Some s → In m.sets (set_of s)
  pub two_pairs : (r t : ℕ) (s : Seat) (side : Side) → m.seat r t ≡ Some s → sitter side s ≢ sitter (opposite side) s
  -- in one round a pair sits at one table at most
  pub pair_at_one_table : (r t t' : ℕ) (s s' : Seat) (side side' : Side) → m.seat r t ≡ Some s → m.seat r t' ≡ Some s'
      → sitter side s ≡ sitter side' s' → t ≡ t'
  -- in one round a set stands at one table at most
  pub set_at_one_table : (r t t' : ℕ) (s s' : Seat) → m.seat r t ≡ Some s → m.seat r t' ≡ Some s'
      → set_of s ≡ set_of s' → t ≡ t'
  -- over all rounds a pair meets a set at most once
  pub set_met_once : (r t r' t' : ℕ) (s s' : Seat) (side side' : Side) → m.seat r t ≡ Some s → m.seat r' t' ≡ Some s'
      → sitter side s ≡ sitter side' s' → set_of s ≡ set_of s' → r ≡ r'
  -- over all rounds two pairs meet at most once, whichever of them sat North-South
  pub pairs_met_once : (r t r' t' : ℕ) (s s' : Seat) (side side' : Side) → m.seat r t ≡ Some s → m.seat r' t' ≡ Some s'
      → sitter side s ≡ sitter side' s' → sitter (opposite side) s ≡ sitter (opposite side') s' → r ≡ r'
