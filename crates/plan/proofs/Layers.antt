-- A layer over a lawful plan is lawful.
use Rattle.std.proofs.Common.{ℕ, false, nat_le, refl, arith}
use Rattle.std.proofs.lemmas.Bool.Decides.{nat_tests}
use Rattle.plan.specs.Plan.{Plan}
use Rattle.plan.specs.Laws.{Laws}
use Rattle.plan.specs.Layers.{without, arrow_switched}
use Rattle.plan.proofs.Over.{over_lawful}

pub without_lawful : (p : ℕ) (m : Plan) → Laws m → Laws (without p m)
without_lawful p m laws = over_lawful (without p m) m laws (record {
  tables_as_below = refl;
  rounds_of_below = let h = laws.rounds_in_range in (omega arith, omega arith);
  sets_as_below = refl;
  pairs_as_below = refl;
  fields = laws.field_of_pair;
  no_fields = laws.no_field_outside;
  empty = λ r t h. grind (arith, laws.empty_outside r t h);
  seats = λ r t s e. (false, grind (arith, nat_tests));
})

pub arrow_switched_lawful : (k : ℕ) (m : Plan) → Laws m → Laws (arrow_switched k m)
arrow_switched_lawful k m laws = over_lawful (arrow_switched k m) m laws (record {
  tables_as_below = refl;
  rounds_of_below = let h = laws.rounds_in_range in (omega arith, omega arith);
  sets_as_below = refl;
  pairs_as_below = refl;
  fields = λ p h. grind (arith, nat_tests);
  no_fields = λ p h. grind (arith, nat_tests);
  empty = λ r t h. grind (arith, laws.empty_outside r t h);
  seats = λ r t s e. (nat_le k r, grind arith);
})
