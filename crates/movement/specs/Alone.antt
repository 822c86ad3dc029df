-- A rotating movement is known by its tables and its rounds.
use Rattle.std.specs.Prelude.{◌≡◌}
use Rattle.movement.specs.declared.rotating.Rotating.{Rotating}

-- no other has the same
abbrev pub IsAlone : {W : Type 0} {g : _} → Rotating W g → Type 0
IsAlone {W = W} {g = g} m = (other : Rotating W g) → other.tables ≡ m.tables → other.rounds ≡ m.rounds → other ≡ m
