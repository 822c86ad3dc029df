-- The Howell keeps the laws: one test over every two of its 28 seats, which the checker computes.
use Rattle.std.proofs.Common.{◌≡◌, ℕ, zero, suc, Bool, true, not, ◌&&◌, ◌||◌, ◌==◌, Some, refl, subst, arith}
use Rattle.std.proofs.lemmas.Bool.Decides.{nat_tests}
use Rattle.plan.specs.declared.side.Side.{Side}
use Rattle.plan.specs.declared.side.Side.TheVariants.{NorthSouth, EastWest}
use Rattle.plan.specs.Plan.{Seat, within, sitter, opposite, set_of}
use Rattle.plan.specs.Laws.{Laws, In}
use Rattle.plan.specs.Movements.{howell, howell_seat, wrap}
use Rattle.plan.proofs.Seats.{seated_at, seated_outside}

-- the test of each number from 1 to n
abbrev each : ℕ → (ℕ → Bool) → Bool
each zero test = true
each (suc n) test = test (suc n) && each n test

each_at : (n : ℕ) (test : ℕ → Bool) → each n test ≡ true → (k : ℕ) → In n k → test k ≡ true
each_at zero test h k range = absurd (omega arith)
each_at (suc n) test h k range = grind (arith, nat_tests, each_at n test)

-- the test of each table in each round
abbrev each_seat : (ℕ → ℕ → Bool) → Bool
each_seat test = each 7 (λ r. each 4 (test r))

each_seat_at : (test : ℕ → ℕ → Bool) → each_seat test ≡ true → (r t : ℕ) → In 7 r → In 4 t → test r t ≡ true
each_seat_at test h r t round table = each_at 4 (test r) (each_at 7 (λ r. each 4 (test r)) h r round) t table

-- if a then b
abbrev then : Bool → Bool → Bool
then a b = not a || b

-- numbers in range, two pairs
abbrev sound : Seat → Bool
sound s = within 8 s.0 && (within 8 s.1 && (within 7 s.2 && not (s.0 == s.1)))

-- what two seats may have in common
abbrev apart : (r t r' t' : ℕ) → Seat → Seat → Side → Side → Bool
apart r t r' t' s s' side side' =
    then (r == r' && set_of s == set_of s') (t == t')
    && then (sitter side s == sitter side' s')
    (then (r == r') (t == t') && (then (set_of s == set_of s') (r == r') && then (sitter (opposite side) s == sitter (opposite side') s') (r == r')))

sound_seat : ℕ → ℕ → Bool
sound_seat r t = sound (howell_seat r t)

apart_seats : Side → Side → (r t r' t' : ℕ) → Bool
apart_seats side side' r t r' t' = apart r t r' t' (howell_seat r t) (howell_seat r' t') side side'

all_sound : each_seat sound_seat ≡ true
unfolding wrap sound_seat
all_sound = refl

all_apart : (side side' : Side) → each_seat (λ r t. each_seat (apart_seats side side' r t)) ≡ true
unfolding wrap apart_seats
all_apart NorthSouth NorthSouth = refl
all_apart NorthSouth EastWest = refl
all_apart EastWest NorthSouth = refl
all_apart EastWest EastWest = refl

-- what the test says of an occupied table, and of two
module _ (rounds : ℕ) (range : In 7 rounds) where
  record At (r t : ℕ) (s : Seat) : Type 0 where
    round : In 7 r
    table : In 4 t
    is : howell_seat r t ≡ s

  at : (r t : ℕ) (s : Seat) → (howell rounds).seat r t ≡ Some s → At r t s
  at r t s e =
      let there = seated_at rounds 4 howell_seat r t s e in
      record { round = (there.0.0, omega arith); table = there.1; is = there.2 }

  sound_at : (r t : ℕ) (s : Seat) → At r t s → sound s ≡ true
  unfolding sound_seat
  sound_at r t s a = subst (λ x. sound x ≡ true) a.is (each_seat_at sound_seat all_sound r t a.round a.table)

  apart_at : (r t r' t' : ℕ) (s s' : Seat) (side side' : Side) → At r t s → At r' t' s' → apart r t r' t' s s' side side' ≡ true
  unfolding apart_seats
  apart_at r t r' t' s s' side side' a b =
      let first = each_seat_at (λ r t. each_seat (apart_seats side side' r t)) (all_apart side side') r t a.round a.table in
      let second = each_seat_at (apart_seats side side' r t) first r' t' b.round b.table in
      subst (λ x. apart r t r' t' x s' side side' ≡ true) a.is (subst (λ x. apart r t r' t' (howell_seat r t) x side side' ≡ true) b.is second)

  pub howell_lawful : Laws (howell rounds)
  howell_lawful = record {
    tables_in_range = (omega arith, omega arith);
    rounds_in_range = (range.0, omega arith);
    sets_in_range = (omega arith, omega arith);
    pairs_in_range = (omega arith, omega arith);
    field_of_pair = λ p h. grind (arith, nat_tests);
    no_field_outside = λ p h. grind (arith, nat_tests);
    empty_outside = seated_outside rounds 4 howell_seat;
    pair_in_range = λ r t s side e. let h = sound_at r t s (at r t s e) in (grind (arith, nat_tests), grind (arith, nat_tests));
    set_in_range = λ r t s e. let h = sound_at r t s (at r t s e) in (grind (arith, nat_tests), grind (arith, nat_tests));
    two_pairs = λ r t s side e same. let h = sound_at r t s (at r t s e) in grind (arith, nat_tests);
    pair_at_one_table = λ r t t' s s' side side' e f same. let h = apart_at r t r t' s s' side side' (at r t s e) (at r t' s' f) in grind (arith, nat_tests);
    set_at_one_table = λ r t t' s s' e f same. let h = apart_at r t r t' s s' NorthSouth NorthSouth (at r t s e) (at r t' s' f) in grind (arith, nat_tests);
    set_met_once = λ r t r' t' s s' side side' e f same set. let h = apart_at r t r' t' s s' side side' (at r t s e) (at r' t' s' f) in grind (arith, nat_tests);
    pairs_met_once = λ r t r' t' s s' side side' e f same others. let h = apart_at r t r' t' s s' side side' (at r t s e) (at r' t' s' f) in grind (arith, nat_tests);
  }
