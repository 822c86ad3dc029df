-- Where `wrap` brings a number that is off the circle by one turn at most.
use Rattle.std.proofs.Common.{◌≡◌, ℕ, ◌+◌, ◌-◌, ◌*◌, ◌%◌, ◌<◌, ◌≤◌, ◌⊎◌, ℤ, pos, ◌+ℤ◌, ◌-ℤ◌, nat_abs, sym, refl, ap, ◌∙◌, inl, inr, arith}
use Rattle.std.proofs.lemmas.Nat.{mod-mul-add}
use Rattle.std.proofs.lemmas.Int.{ints, int_rem_euclid_is}
use Rattle.std.proofs.lemmas.Bool.{cases_lt}
use Rattle.plan.specs.Laws.{In}
use Rattle.plan.specs.Movements.{wrap}

-- b is on the circle of n, and a or one turn short of it
abbrev pub Around : ℕ → ℕ → ℕ → Type 0
Around n a b = In n b × ((b ≡ a) ⊎ (b + n ≡ a))

-- b is what v wraps to if it is on the circle and some turns more than v are some turns more than b
pub wrap_is : (n : ℕ) (v : ℤ) (b k q : ℕ) → In n b → v +ℤ pos (k * n) ≡ pos (q * n + b) → wrap n v ≡ b
unfolding wrap
wrap_is n v b k q h e =
    let rest : (q * n + (b - 1)) % n ≡ b - 1 = mod-mul-add q n (b - 1) (omega arith) in
    let down : (v -ℤ pos 1) +ℤ pos (k * n) ≡ pos (q * n + (b - 1)) = omega (arith, ints) in
    ap (λ z. 1 + nat_abs z) (int_rem_euclid_is (v -ℤ pos 1) (pos n) n k (q * n + (b - 1)) (omega arith) refl down) ∙ omega arith

-- the same, with the remainder that brings a number above 0 onto the circle
pub wrap_from : (n : ℕ) (v : ℤ) (k a : ℕ) → 1 ≤ n → 1 ≤ a → v +ℤ pos (k * n) ≡ pos a → 1 + (a - 1) % n ≡ wrap n v
unfolding wrap
wrap_from n v k a some above e = ap (λ z. 1 + nat_abs z) (sym (int_rem_euclid_is (v -ℤ pos 1) (pos n) n k (a - 1) some refl (omega (arith, ints))))

pub wrap_around : (n : ℕ) (v : ℤ) (k a : ℕ) → v +ℤ pos (k * n) ≡ pos a → 1 ≤ a → a ≤ 2 * n → Around n a (wrap n v)
wrap_around n v k a e low high =
    elim (cases_lt n a) [
      | inl far ↦ let w = wrap_is n v (a - n) k 1 (omega arith, omega arith) (e ∙ ap pos (omega arith)) in ((omega arith, omega arith), inr (omega arith))
      | inr near ↦ let w = wrap_is n v a k 0 (omega arith, near) (e ∙ ap pos (omega arith)) in ((omega arith, omega arith), inl w)
    ]

-- t less k, where k is less than a turn
pub wrap_back : (n t k : ℕ) → In n t → k < n → Around n (t + n - k) (wrap n (pos t -ℤ pos k))
wrap_back n t k h less = wrap_around n (pos t -ℤ pos k) 1 (t + n - k) (omega (arith, ints)) (omega arith) (omega arith)
