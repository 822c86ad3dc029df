-- The place of a pair is found at its table, and by the laws of a plan it has no other.
use Rattle.std.proofs.Common.{◌≡◌, ℕ, zero, suc, ◌-◌, Some, None, Option, sym, refl, ap, ◌∙◌, inl, inr, arith, MatchOption}
use Rattle.std.proofs.lemmas.Bool.{cases_lt}
use Rattle.std.proofs.lemmas.Bool.Decides.{nat_tests}
use Rattle.plan.specs.Plan.{Plan, Seat}
use Rattle.plan.specs.Laws.{Laws, In}
use Rattle.plan.proofs.Occupied.{occupied_in}
use Rattle.guide.specs.declared.place.Place.{Place}
use Rattle.guide.specs.Places.{Plays, SitsOut, place_at, place_among, seat_on}

-- one seat has a pair on one side only, so it tells the rest of the place
one_place : (m : Plan) → Laws m → (round pair : ℕ) (p other : Place) → Plays m round pair p → Plays m round pair other → other ≡ p
one_place m laws round pair p other here there =
    let s = seat_on p.side pair p.opponents p.set in
    let s' = seat_on other.side pair other.opponents other.set in
    let table : p.table ≡ other.table = laws.pair_at_one_table round p.table other.table s s' p.side other.side here there (grind arith) in
    let apart : pair ≡ p.opponents → ⊥ = λ e. laws.two_pairs round p.table s p.side here (grind arith) in
    let seats : ◌≡◌ {A = Option Seat} (Some s) (Some s') = sym here ∙ ap (m.seat round) table ∙ there in
    grind (arith, apart)

-- what a search of the first n tables, one by one, finds of a pair
abbrev pub FirstPlace : Plan → ℕ → ℕ → ℕ → Option Place → Type 0
FirstPlace m round pair n r = MatchOption r ((t : ℕ) → In n t → place_at t pair (m.seat round t) ≡ None)
    (λ p. (t : ℕ) × In n t × (place_at t pair (m.seat round t) ≡ Some p) × ((u : ℕ) → In (t - 1) u → place_at u pair (m.seat round u) ≡ None))

pub place_first : (m : Plan) (round pair n : ℕ) (r : Option Place) → FirstPlace m round pair n r → r ≡ place_among m round pair n
place_first m round pair zero None none = refl
place_first m round pair zero (Some p) first = absurd (omega arith)
place_first m round pair (suc n) None none = grind (arith, none (suc n), place_first m round pair n None (λ t range. none t (range.0, omega arith)))
place_first m round pair (suc n) (Some p) first =
    elim (cases_lt n first.0) [
      | inl last ↦
          let same : first.0 ≡ suc n = omega arith in
          let here = first.2 in
          grind (arith, place_first m round pair n None (λ t range. first.3 t (range.0, omega arith)))
      | inr below ↦ grind (arith, place_first m round pair n (Some p) (first.0, (first.1.0, below), first.2, first.3))
    ]

pub found_by : (m : Plan) → Laws m → (round pair : ℕ) (r : Option Place) → FirstPlace m round pair m.tables r → MatchOption r (SitsOut m round pair) (Plays m round pair)
found_by m laws round pair (Some p) first = let here = first.2 in grind (arith, nat_tests)
found_by m laws round pair None none = λ t s side at same. let empty = none t (occupied_in m laws round t s at).1 in grind (arith, nat_tests)

pub alone_by : (m : Plan) → Laws m → (round pair : ℕ) (r : Option Place) → MatchOption r (SitsOut m round pair) (Plays m round pair)
    → MatchOption r Unit (λ p. (other : Place) → Plays m round pair other → other ≡ p)
alone_by m laws round pair (Some p) plays = λ other there. one_place m laws round pair p other plays there
alone_by m laws round pair None out = tt
