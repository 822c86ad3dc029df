-- How far a penalty can go, and what one more undertrick adds to it.
use Rattle.std.proofs.Common.{◌≡◌, ℕ, zero, suc, ◌+◌, ◌*◌, ◌≤◌, Bool, true, false, add-one, arith, lit≤}
use Rattle.contract.specs.declared.contract.Doubling.{Doubling}
use Rattle.contract.specs.declared.contract.Doubling.TheVariants.{Undoubled, Doubled, Redoubled}
use Rattle.scoring.specs.Law.{doubled_undertrick, undertrick, penalty}
use Rattle.std.proofs.lemmas.Bool.Decides.{nat_tests}

doubled_most : (v : Bool) (k : ℕ) → doubled_undertrick v k ≤ 300
doubled_most v k = grind (arith, nat_tests)

pub undertrick_most : (v : Bool) (d : Doubling) (k : ℕ) → undertrick v d k ≤ 600
undertrick_most v Undoubled k = grind (arith, nat_tests)
undertrick_most v Doubled k = omega (arith, doubled_most v k)
undertrick_most v Redoubled k = omega (arith, doubled_most v k)

-- 400 for the first, 600 for each further one
penalty_steps : (v : Bool) (d : Doubling) (n : ℕ) → penalty v d (suc n) ≤ 400 + 600 * n
penalty_steps true Undoubled zero = lit≤ tt
penalty_steps true Doubled zero = lit≤ tt
penalty_steps true Redoubled zero = lit≤ tt
penalty_steps false Undoubled zero = lit≤ tt
penalty_steps false Doubled zero = lit≤ tt
penalty_steps false Redoubled zero = lit≤ tt
penalty_steps v d (suc n) = omega (arith, penalty_steps v d n, undertrick_most v d (suc (suc n)))

pub penalty_most : (v : Bool) (d : Doubling) (n : ℕ) → n ≤ 13 → penalty v d n ≤ 7600
penalty_most v d zero h = lit≤ tt
penalty_most v d (suc n) h = omega (arith, penalty_steps v d n)

pub penalty_next : (v : Bool) (d : Doubling) (n : ℕ) → penalty v d (n + 1) ≡ penalty v d n + undertrick v d (n + 1)
penalty_next v d n = rw add-one

pub ruleset penalties = (undertrick_most, penalty_most, penalty_next)
