-- The plans of the three movements, as functions of their tables and rounds.
use Rattle.std.specs.Prelude.{ℕ, ◌+◌, ◌-◌, ◌*◌, ◌/◌, ◌&&◌, ℤ, pos, ◌-ℤ◌, Some, None, Option, ◌==◌, nat_le, unsigned_abs, if◌then◌else◌}
use Rattle.std.specs.Int.{int_rem_euclid}
use Rattle.plan.specs.Plan.{Plan, Seat, within}

-- the number from 1 to n that differs from v by a multiple of n
unfoldable pub wrap : ℕ → ℤ → ℕ
wrap n v = 1 + unsigned_abs (int_rem_euclid (v -ℤ pos 1) (pos n))

-- a seat at each table in each round, and none elsewhere
abbrev pub seated : ℕ → ℕ → (ℕ → ℕ → Seat) → ℕ → ℕ → Option Seat
seated rounds tables who r t = if within rounds r && within tables t then Some (who r t) else None

abbrev pub one_field : ℕ → ℕ → ℕ
one_field pairs p = if within pairs p then 1 else 0

-- the first half of the pairs in field 1, the second in field 2
abbrev pub two_fields : ℕ → ℕ → ℕ
two_fields half p = if within half p then 1 else (if within (2 * half) p then 2 else 0)

-- North-South sit still, the sets go down one table after each round, and by round r the East-West pairs have gone up
-- `gone r` tables.
abbrev pub rotating_seat : ℕ → (ℕ → ℕ) → ℕ → ℕ → Seat
rotating_seat tables gone r t = (t, tables + wrap tables (pos t -ℤ pos (gone r)), wrap tables (pos (t + r - 1)))

abbrev pub rotating : ℕ → ℕ → (ℕ → ℕ) → Plan
rotating tables rounds gone = record {
  tables = tables;
  rounds = rounds;
  sets = tables;
  pairs = 2 * tables;
  field = two_fields tables;
  seat = seated rounds tables (rotating_seat tables gone);
}

abbrev pub mitchell : ℕ → ℕ → Plan
mitchell tables rounds = rotating tables rounds (λ r. r - 1)

-- after round T / 2 East-West skip a table
abbrev pub skip_mitchell : ℕ → ℕ → Plan
skip_mitchell tables rounds = rotating tables rounds (λ r. if nat_le r (tables / 2) then r - 1 else r)

-- k more than the round, around 1 to 7
abbrev pub after : ℕ → ℕ → ℕ
after r k = wrap 7 (pos (r + k))

-- round r of the Howell, table by table
abbrev pub howell_seat : ℕ → ℕ → Seat
howell_seat r t =
    if t == 1 then (8, after r 0, after r 0)
    else (if t == 2 then (after r 2, after r 3, after r 5)
    else (if t == 3 then (after r 4, after r 6, after r 3) else (after r 1, after r 5, after r 6)))

abbrev pub howell : ℕ → Plan
howell rounds = record {
  tables = 4;
  rounds = rounds;
  sets = 7;
  pairs = 8;
  field = one_field 8;
  seat = seated rounds 4 howell_seat;
}
