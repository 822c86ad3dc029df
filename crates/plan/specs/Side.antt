-- The names of the sides.
use Rattle.std.specs.Prelude.{ℕ, List, codes}
use Rattle.plan.specs.declared.side.Side.{Side}
use Rattle.plan.specs.declared.side.Side.TheVariants.{NorthSouth, EastWest}

abbrev pub side_name : Side → List ℕ
side_name NorthSouth = codes "North-South"
side_name EastWest = codes "East-West"
