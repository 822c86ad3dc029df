-- A count that is held in a byte, as far as it fits.
use Rattle.std.proofs.Common.{◌≡◌, ℕ, ◌+◌, Bool, List, [], ◌∷◌, ◌++◌, if◌then◌else◌, min, count_by, ◌∙◌, arith}
use Rattle.std.proofs.lemmas.Bool.Decides.{nat_tests}
use Rattle.std.proofs.lemmas.List.Sums.{sum_by-append}

one_more : {X : Type 0} (p : X → Bool) (xs : List X) (x : X) → count_by p (xs ++ (x ∷ [])) ≡ count_by p xs + (if p x then 1 else 0)
one_more p xs x = sum_by-append (λ y. if p y then 1 else 0) xs (x ∷ []) ∙ omega arith

-- an element more
pub counted_more : {X : Type 0} (p : X → Bool) (xs : List X) (x : X) (before after : ℕ) → before ≡ min (count_by p xs) 255
    → after ≡ min (before + (if p x then 1 else 0)) 255 → after ≡ min (count_by p (xs ++ (x ∷ []))) 255
counted_more p xs x before after counted added = let all = one_more p xs x in grind (arith, nat_tests)
