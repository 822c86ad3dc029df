-- The three ways of comparing of Law 78 of the Laws of Duplicate Bridge.
use Rattle.std.specs.Prelude.{ℕ, suc, if◌then◌else◌, List, [], ◌∷◌, ℤ, pos, negsuc, ◌-ℤ◌, neg_ℤ, count_by, int_lt, nat_le}
use Rattle.comparison.specs.Way.{Way}

-- two for a better score, one for an equal one
abbrev pub matchpoints_won : ℤ → ℤ → ℤ
matchpoints_won a b = if int_lt b a then pos 2 else (if int_lt a b then pos 0 else pos 1)

abbrev pub matchpoints : Way
matchpoints = record { compare = λ a b. matchpoints_won a.points b.points; tie = 1; lift = 1; scale = 50; code = 1 }

-- the differences at which each step of the IMP scale starts
abbrev pub imp_starts : List ℕ
imp_starts =
    20 ∷ 50 ∷ 90 ∷ 130 ∷ 170 ∷ 220 ∷ 270 ∷ 320 ∷ 370 ∷ 430 ∷ 500 ∷ 600 ∷ 750 ∷ 900 ∷ 1100 ∷ 1300 ∷ 1500 ∷ 1750 ∷ 2000 ∷ 2250 ∷ 2500 ∷ 3000 ∷ 3500 ∷ 4000 ∷ []

-- how many starts a difference reaches
unfoldable pub imp_step : ℕ → ℕ
imp_step difference = count_by (λ start. nat_le start difference) imp_starts

-- the step of a difference, with its sign
abbrev pub signed_step : ℤ → ℤ
signed_step (pos n) = pos (imp_step n)
signed_step (negsuc n) = neg_ℤ (pos (imp_step (suc n)))

abbrev pub imps : Way
imps = record { compare = λ a b. signed_step (a.points -ℤ b.points); tie = 0; lift = 10; scale = 1; code = 2 }

abbrev pub total_points : Way
total_points = record { compare = λ a b. a.points -ℤ b.points; tie = 0; lift = 500; scale = 1; code = 3 }
