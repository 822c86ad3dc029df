-- The signed step of a difference keeps the laws of a way of comparing.
use Rattle.std.specs.Prelude.{◌≡◌, zero, suc, ◌+◌, ℤ, pos, negsuc, ◌+ℤ◌, ◌-ℤ◌, neg_ℤ, ◌≤ℤ◌}
use Rattle.std.proofs.Common.{ap, ◌∙◌, arith}
use Rattle.std.proofs.Math.IntN.{+ℤ_invr, +ℤ_invl}
use Rattle.std.proofs.lemmas.Int.{ints}
use Rattle.comparison.specs.Way.{Lawful}
use Rattle.comparison.specs.Ways.{imp_step, signed_step, imps}
use Rattle.comparison.specs.Scale.{step_zero, step_most, step_rising}

opposite : (z : ℤ) → signed_step z +ℤ signed_step (neg_ℤ z) ≡ pos 0
opposite (pos zero) = ap (λ n. pos (n + n)) step_zero
opposite (pos (suc n)) = +ℤ_invr (pos (imp_step (suc n)))
opposite (negsuc n) = +ℤ_invl (pos (imp_step (suc n)))

swapped : (a b : ℤ) → b -ℤ a ≡ neg_ℤ (a -ℤ b)
swapped a b = omega (arith, ints)

step_least : (z : ℤ) → neg_ℤ (pos 24) ≤ℤ signed_step z
step_least (pos n) = omega (arith, ints)
step_least (negsuc n) = omega (arith, ints, step_most (suc n))

step_greatest : (z : ℤ) → signed_step z ≤ℤ pos 24
step_greatest (pos n) = omega (arith, ints, step_most n)
step_greatest (negsuc n) = omega (arith, ints)

signed_rising : (x y : ℤ) → x ≤ℤ y → signed_step x ≤ℤ signed_step y
signed_rising (pos m) (pos n) h = omega (arith, ints, step_rising m n (omega (arith, ints)))
signed_rising (pos m) (negsuc n) h = absurd (omega (arith, ints))
signed_rising (negsuc m) (pos n) h = omega (arith, ints)
signed_rising (negsuc m) (negsuc n) h = omega (arith, ints, step_rising (suc n) (suc m) (omega (arith, ints)))

pub imps_lawful : Lawful imps
imps_lawful = record {
  balanced = λ a b. ap (λ z. signed_step (a.points -ℤ b.points) +ℤ signed_step z) (swapped a.points b.points) ∙ opposite (a.points -ℤ b.points);
  rising = λ a higher b h. signed_rising (a.points -ℤ b.points) (higher.points -ℤ b.points) (omega (arith, ints));
  points_least = λ a b. omega (arith, ints, step_least (a.points -ℤ b.points));
  points_most = λ a b. omega (arith, ints, step_greatest (a.points -ℤ b.points));
  tie_most = omega arith;
  lift_least = omega arith;
  lift_most = omega arith;
  scale_least = omega arith;
  scale_most = omega arith;
  code_least = omega arith;
  code_most = omega arith;
}
