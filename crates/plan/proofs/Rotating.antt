-- The argument that Mitchell and skip Mitchell share, whatever the tables that East-West have gone by each round.
use Rattle.std.proofs.Common.{◌≡◌, ℕ, ◌+◌, ◌-◌, pos, ◌-ℤ◌, Some, sym, ap, subst, arith}
use Rattle.plan.specs.Plan.{Seat}
use Rattle.plan.specs.Laws.{Laws, In}
use Rattle.plan.specs.Movements.{rotating, rotating_seat, wrap}
use Rattle.plan.specs.Turns.{Turns}
use Rattle.std.proofs.lemmas.Bool.Decides.{nat_tests}
use Rattle.plan.proofs.Seats.{seated_at, seated_outside}
use Rattle.plan.proofs.Wrapping.{Around, wrap_around, wrap_back}

module _ (tables rounds : ℕ) (gone : ℕ → ℕ) (turns : Turns tables rounds gone) where
  -- what is known of an occupied table
  record At (r t : ℕ) (s : Seat) : Type 0 where
    round : In rounds r
    table : In tables t
    home : s.0 ≡ t
    guest : ℕ
    away : s.1 ≡ tables + guest
    guest_at : Around tables (t + tables - gone r) guest
    set_at : Around tables (t + r - 1) s.2

  at : (r t : ℕ) (s : Seat) → (rotating tables rounds gone).seat r t ≡ Some s → At r t s
  at r t s e =
      let there = seated_at rounds tables (rotating_seat tables gone) r t s e in
      let round = there.0 in
      let table = there.1 in
      let seat = there.2 in
      let less = turns.less r round in
      let small = turns.rounds_in_range in
      let set = wrap_around tables (pos (t + r - 1)) 0 (t + r - 1) (ap pos (omega arith)) (omega arith) (omega arith) in
      record {
        round = round;
        table = table;
        home = sym (ap (λ (x : Seat). x.0) seat);
        guest = wrap tables (pos t -ℤ pos (gone r));
        away = sym (ap (λ (x : Seat). x.1) seat);
        guest_at = wrap_back tables t (gone r) table less;
        set_at = subst (λ (x : Seat). Around tables (t + r - 1) x.2) seat set;
      }

  pub rotating_lawful : Laws (rotating tables rounds gone)
  rotating_lawful =
      let small = turns.tables_most in
      let range = turns.rounds_in_range in
      record {
        tables_in_range = (omega arith, omega arith);
        rounds_in_range = (omega arith, omega arith);
        sets_in_range = (omega arith, omega arith);
        pairs_in_range = (omega arith, omega arith);
        field_of_pair = λ p h. grind (arith, nat_tests);
        no_field_outside = λ p h. grind (arith, nat_tests);
        empty_outside = seated_outside rounds tables (rotating_seat tables gone);
        pair_in_range = λ r t s side e. let a = at r t s e in (grind arith, grind arith);
        set_in_range = λ r t s e. (at r t s e).set_at.0;
        two_pairs = λ r t s side e same. let a = at r t s e in grind arith;
        pair_at_one_table = λ r t t' s s' side side' e f same.
            let a = at r t s e in
            let b = at r t' s' f in
            grind (arith, turns.less r a.round);
        set_at_one_table = λ r t t' s s' e f same.
            let a = at r t s e in
            let b = at r t' s' f in
            grind arith;
        set_met_once = λ r t r' t' s s' side side' e f same set.
            let a = at r t s e in
            let b = at r' t' s' f in
            let less = turns.less r a.round in
            let less' = turns.less r' b.round in
            let closer = turns.closer r r' a.round b.round in
            let ahead = turns.no_turn r r' a.round b.round in
            let behind = turns.no_turn r' r b.round a.round in
            grind arith;
        pairs_met_once = λ r t r' t' s s' side side' e f same others.
            let a = at r t s e in
            let b = at r' t' s' f in
            let less = turns.less r a.round in
            let less' = turns.less r' b.round in
            let further = turns.further r r' a.round b.round in
            grind arith;
      }
