-- A scale of rising starts, and the step of a difference on it.
use Rattle.std.specs.Prelude.{◌≡◌, ℕ, zero, suc, ◌+◌, ◌<◌, ◌≤◌, Bool, true, if◌then◌else◌, ◌&&◌, ◌↔◌, List, [], ◌∷◌, length, count_by, nat_le, nat_lt, slice_index, refl}
use Rattle.std.proofs.Common.{inl, inr, ◌∙◌, arith}
use Rattle.std.proofs.lemmas.List.Sums.{sum_by-cons, count_by-le-length}
use Rattle.std.proofs.lemmas.Bool.{and_parts, cases_lt, le-leb, lt-leb, ltb-true}
use Rattle.std.proofs.lemmas.Bool.Decides.{nat_tests}
use Rattle.comparison.specs.Ways.{imp_starts, imp_step}

-- how many of the starts a difference reaches
reached : ℕ → List ℕ → ℕ
reached d starts = count_by (λ start. nat_le start d) starts

reached_none : (d : ℕ) → reached d [] ≡ 0
unfolding reached
reached_none d = refl

reached-cons : (d x : ℕ) (xs : List ℕ) → reached d (x ∷ xs) ≡ (if nat_le x d then 1 else 0) + reached d xs
unfolding reached
reached-cons d x xs = sum_by-cons (λ start. if nat_le start d then 1 else 0) x xs

reached_yes : (d x : ℕ) (xs : List ℕ) → x ≤ d → reached d (x ∷ xs) ≡ 1 + reached d xs
reached_yes d x xs h = let e = le-leb x d h in rw (reached-cons d x xs, e)

reached_no : (d x : ℕ) (xs : List ℕ) → d < x → reached d (x ∷ xs) ≡ reached d xs
reached_no d x xs h = let e = lt-leb x d h in rw (reached-cons d x xs, e) (omega arith)

reached_rising : (m n : ℕ) → m ≤ n → (xs : List ℕ) → reached m xs ≤ reached n xs
reached_rising m n h [] = omega (arith, reached_none m)
reached_rising m n h (x ∷ xs) = let rest = reached_rising m n h xs in grind (arith, nat_tests, reached-cons)

pub step_rising : (m n : ℕ) → m ≤ n → imp_step m ≤ imp_step n
unfolding imp_step reached
step_rising m n h = reached_rising m n h imp_starts

pub step_most : (n : ℕ) → imp_step n ≤ 24
unfolding imp_step
step_most n = count_by-le-length (λ start. nat_le start n) imp_starts

pub step_zero : imp_step 0 ≡ 0
unfolding imp_step
step_zero = refl

-- the test that each start is above the ones before it
abbrev above : ℕ → List ℕ → Bool
above x [] = true
above x (y ∷ ys) = nat_lt x y && above x ys

abbrev rises : List ℕ → Bool
rises [] = true
rises (x ∷ xs) = above x xs && rises xs

above_each : (x : ℕ) (ys : List ℕ) → above x ys ≡ true → (k : ℕ) → k < length ys → x < slice_index ys k
above_each x [] up k h = absurd (omega arith)
above_each x (y ∷ ys) up zero h = ltb-true x y (and_parts (nat_lt x y) (above x ys) up).0
above_each x (y ∷ ys) up (suc k) h = above_each x ys (and_parts (nat_lt x y) (above x ys) up).1 k (omega arith)

none_reached : (d x : ℕ) → d < x → (ys : List ℕ) → above x ys ≡ true → reached d ys ≡ 0
none_reached d x h [] up = reached_none d
none_reached d x h (y ∷ ys) up =
    let parts = and_parts (nat_lt x y) (above x ys) up in
    let far = ltb-true x y parts.0 in
    reached_no d y ys (omega arith) ∙ none_reached d x h ys parts.1

first_missed : (d x : ℕ) (xs : List ℕ) → rises (x ∷ xs) ≡ true → d < x → reached d (x ∷ xs) ≡ 0
first_missed d x xs up below = reached_no d x xs below ∙ none_reached d x below xs (and_parts (above x xs) (rises xs) up).0

-- on a rising scale a start is reached exactly where the count passes its place
counts : (d : ℕ) (xs : List ℕ) → rises xs ≡ true → (k : ℕ) → k < length xs → (k < reached d xs) ↔ (slice_index xs k ≤ d)
counts d [] up k h = absurd (omega arith)
counts d (x ∷ xs) up zero h =
    elim (cases_lt d x) [
      | inl below ↦ let none = first_missed d x xs up below in (λ lt. omega arith, λ le. omega arith)
      | inr from ↦ let one = reached_yes d x xs from in (λ lt. from, λ le. omega arith)
    ]
counts d (x ∷ xs) up (suc k) h =
    let parts = and_parts (above x xs) (rises xs) up in
    let rest = counts d xs parts.1 k (omega arith) in
    let far = above_each x xs parts.0 k (omega arith) in
    elim (cases_lt d x) [
      | inl below ↦ let none = first_missed d x xs up below in (λ lt. omega arith, λ le. omega arith)
      | inr from ↦ let one = reached_yes d x xs from in (λ lt. rest.0 (omega arith), λ le. omega (arith, rest.1 le))
    ]

-- the starts of the IMP scale rise
rising_starts : rises imp_starts ≡ true
rising_starts = refl

pub step_starts : (d k : ℕ) → k < 24 → (k < imp_step d) ↔ (slice_index imp_starts k ≤ d)
unfolding imp_step reached
step_starts d k h = counts d imp_starts rising_starts k h
