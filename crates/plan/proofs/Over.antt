-- A plan whose seats are those of a lawful plan, fewer perhaps and some with the sides exchanged, keeps the laws.
use Rattle.std.proofs.Common.{◌≡◌, ℕ, Bool, true, false, Some, None, sym, subst, arith}
use Rattle.plan.specs.declared.side.Side.{Side}
use Rattle.plan.specs.declared.side.Side.TheVariants.{NorthSouth}
use Rattle.plan.specs.Plan.{Plan, Seat, sitter, opposite, set_of}
use Rattle.plan.specs.Laws.{Laws, In}

-- a seat with its sides exchanged, or as it is
abbrev pub turned : Bool → Seat → Seat
turned true s = (s.1, s.0, s.2)
turned false s = s

abbrev turned_side : Bool → Side → Side
turned_side true side = opposite side
turned_side false side = side

pub record Over (m below : Plan) : Type 0 where
  pub tables_as_below : m.tables ≡ below.tables
  pub rounds_of_below : In below.rounds m.rounds
  pub sets_as_below : m.sets ≡ below.sets
  pub pairs_as_below : m.pairs ≡ below.pairs
  pub fields : (p : ℕ) → In m.pairs p → In 2 (m.field p)
  pub no_fields : (p : ℕ) → (In m.pairs p → ⊥) → m.field p ≡ 0
  pub empty : (r t : ℕ) → (In m.rounds r × In m.tables t → ⊥) → m.seat r t ≡ None
  -- each seat is that of the plan below, exchanged or not
  pub seats : (r t : ℕ) (s : Seat) → m.seat r t ≡ Some s → (b : Bool) × (below.seat r t ≡ Some (turned b s))

module _ (m below : Plan) (laws : Laws below) (over : Over m below) where
  -- the seat of the plan below, and what the two have in common
  record At (r t : ℕ) (s : Seat) (side : Side) : Type 0 where
    below_seat : Seat
    below_side : Side
    is : below.seat r t ≡ Some below_seat
    pair : sitter below_side below_seat ≡ sitter side s
    others : sitter (opposite below_side) below_seat ≡ sitter (opposite side) s
    set : set_of below_seat ≡ set_of s

  at : (r t : ℕ) (s : Seat) (side : Side) → m.seat r t ≡ Some s → At r t s side
  at r t s side e =
      let seat = over.seats r t s e in
      record { below_seat = turned seat.0 s; below_side = turned_side seat.0 side; is = seat.1; pair = grind arith; others = grind arith; set = grind arith }

  pub over_lawful : Laws m
  over_lawful = record {
    tables_in_range = subst (In 16) (sym over.tables_as_below) laws.tables_in_range;
    rounds_in_range = let h = over.rounds_of_below in let most = laws.rounds_in_range in (omega arith, omega arith);
    sets_in_range = subst (In 16) (sym over.sets_as_below) laws.sets_in_range;
    pairs_in_range = let e = over.pairs_as_below in let h = laws.pairs_in_range in (omega arith, omega arith);
    field_of_pair = over.fields;
    no_field_outside = over.no_fields;
    empty_outside = over.empty;
    pair_in_range = λ r t s side e.
        let a = at r t s side e in
        let known = laws.pair_in_range r t a.below_seat a.below_side a.is in
        let pairs = over.pairs_as_below in
        (omega arith, omega arith);
    set_in_range = λ r t s e.
        let a = at r t s NorthSouth e in
        let known = laws.set_in_range r t a.below_seat a.is in
        let sets = over.sets_as_below in
        (omega arith, omega arith);
    two_pairs = λ r t s side e same. let a = at r t s side e in laws.two_pairs r t a.below_seat a.below_side a.is (cc);
    pair_at_one_table = λ r t t' s s' side side' e f same.
        let a = at r t s side e in
        let b = at r t' s' side' f in
        laws.pair_at_one_table r t t' a.below_seat b.below_seat a.below_side b.below_side a.is b.is (cc);
    set_at_one_table = λ r t t' s s' e f same.
        let a = at r t s NorthSouth e in
        let b = at r t' s' NorthSouth f in
        laws.set_at_one_table r t t' a.below_seat b.below_seat a.is b.is (cc);
    set_met_once = λ r t r' t' s s' side side' e f same set.
        let a = at r t s side e in
        let b = at r' t' s' side' f in
        laws.set_met_once r t r' t' a.below_seat b.below_seat a.below_side b.below_side a.is b.is (cc) (cc);
    pairs_met_once = λ r t r' t' s s' side side' e f same others.
        let a = at r t s side e in
        let b = at r' t' s' side' f in
        laws.pairs_met_once r t r' t' a.below_seat b.below_seat a.below_side b.below_side a.is b.is (cc) (cc);
  }
