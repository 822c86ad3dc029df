-- How far the East-West pairs may have gone up by each round, so that nobody meets a pair or a set again.
use Rattle.std.specs.Prelude.{◌≡◌, ℕ, ◌+◌, ◌<◌, ◌≤◌}
use Rattle.plan.specs.Laws.{In}

pub record Turns (tables rounds : ℕ) (gone : ℕ → ℕ) : Type 0 where
  pub tables_most : tables ≤ 16
  pub rounds_in_range : In tables rounds
  -- less than a whole turn
  pub less : (r : ℕ) → In rounds r → gone r < tables
  -- never as far in two rounds
  pub further : (r r' : ℕ) → In rounds r → In rounds r' → gone r ≡ gone r' → r ≡ r'
  -- they and the sets walk towards each other: never have they come as close in two rounds, by a whole turn more or not
  pub closer : (r r' : ℕ) → In rounds r → In rounds r' → r + gone r ≡ r' + gone r' → r ≡ r'
  pub no_turn : (r r' : ℕ) → In rounds r → In rounds r' → r + gone r ≡ r' + gone r' + tables → ⊥
