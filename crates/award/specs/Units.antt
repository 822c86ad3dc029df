-- The unit of awards.
use Rattle.std.specs.Prelude.{ℕ}

abbrev pub units_per_point : ℕ
units_per_point = 720720
