-- What a layer makes of the plan below it.
use Rattle.std.specs.Prelude.{ℕ, ◌||◌, Some, None, Option, ◌==◌, nat_le, if◌then◌else◌}
use Rattle.plan.specs.Plan.{Plan, Seat}
use Rattle.plan.specs.Movements.{one_field}

abbrev pub emptied : ℕ → Option Seat → Option Seat
emptied p None = None
emptied p (Some s) = if p == s.0 || p == s.1 then None else Some s

-- each table where pair p would sit is empty
abbrev pub without : ℕ → Plan → Plan
without p m = record {
  tables = m.tables;
  rounds = m.rounds;
  sets = m.sets;
  pairs = m.pairs;
  field = m.field;
  seat = λ r t. emptied p (m.seat r t);
}

abbrev pub exchanged : Option Seat → Option Seat
exchanged None = None
exchanged (Some s) = Some (s.1, s.0, s.2)

-- from round k on North-South and East-West change places, and all pairs are in field 1
abbrev pub arrow_switched : ℕ → Plan → Plan
arrow_switched k m = record {
  tables = m.tables;
  rounds = m.rounds;
  sets = m.sets;
  pairs = m.pairs;
  field = one_field m.pairs;
  seat = λ r t. if nat_le k r then exchanged (m.seat r t) else m.seat r t;
}
