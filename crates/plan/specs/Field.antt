-- The numbers of the fields.
use Rattle.std.specs.Prelude.{ℕ, Some, None, Option}
use Rattle.plan.specs.declared.field.Field.{Field}
use Rattle.plan.specs.declared.field.Field.TheVariants.{One, Two}

abbrev pub number_of_field : Field → ℕ
number_of_field One = 1
number_of_field Two = 2

-- 0 for what is in no field
abbrev pub field_number : Option Field → ℕ
field_number None = 0
field_number (Some f) = number_of_field f
