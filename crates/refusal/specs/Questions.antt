-- The questions before a call.
use Rattle.std.specs.Prelude.{Bool, true, false, List, [], ◌∷◌, Some, None, Option}
use Rattle.refusal.specs.declared.Refusal.{Refusal}

-- Each question has its refusal; they are asked in order, and the first "no" ends the call.
abbrev pub first_no : List (Bool × Refusal) → Option Refusal
first_no [] = None
first_no ((true, refusal) ∷ later) = first_no later
first_no ((false, refusal) ∷ later) = Some refusal
