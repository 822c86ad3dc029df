-- Two refusals are the same exactly where their numbers are: what `==` and `!=` answer, also where a bound stands for the type.
use Rattle.std.proofs.Common.{◌≡◌, ◌==◌, ap, arith, rules, eqb-true, eq-eqb}
use Rattle.std.specs.Prelude.{IsTrue, ◌↔◌}
use Rattle.std.specs.Ordering.{on}
use Rattle.refusal.specs.declared.Refusal.{Refusal}
use Rattle.refusal.specs.contracts.RefusalPartialEq.TheImpl.{eq-value}
use Rattle.refusal.specs.Numbers.{number_of}

same_number : (x y : Refusal) → number_of x ≡ number_of y → x ≡ y
same_number x y e = grind arith

pub same_refusal : (x y : Refusal) → IsTrue (number_of x == number_of y) ↔ (x ≡ y)
same_refusal x y = (λ e. same_number x y (eqb-true (number_of x) (number_of y) e), λ e. eq-eqb (number_of x) (number_of y) (ap number_of e))

equal_number : (x y : Refusal) → eq-value.it x y ≡ (number_of x == number_of y)
equal_number x y = search rules

-- the test of a bound
pub equality : eq-value.it ≡ on number_of ◌==◌
equality i x y = equal_number x y i
