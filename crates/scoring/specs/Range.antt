-- What a score can be.
use Rattle.std.specs.Prelude.{ℤ, pos, neg_ℤ, ◌≤ℤ◌}

-- from -7,600 to 7,600
abbrev pub ScoreRange : ℤ → Type 0
ScoreRange z = (neg_ℤ (pos 7600) ≤ℤ z) × (z ≤ℤ pos 7600)
