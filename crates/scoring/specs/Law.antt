-- What a contract scores, rule by rule: Law 77 of the Laws of Duplicate Bridge.
use Rattle.std.specs.Prelude.{◌≡◌, ℕ, zero, suc, ◌+◌, ◌-◌, ◌*◌, ◌<◌, ◌≤◌, Bool, if◌then◌else◌, ℤ, pos, neg_ℤ, ◌==◌, nat_le}
use Rattle.contract.specs.declared.contract.Contract.{Contract}
use Rattle.contract.specs.declared.contract.Denomination.{Denomination}
use Rattle.contract.specs.declared.contract.Denomination.TheVariants.{Clubs, Diamonds, Hearts, Spades, NoTrump}
use Rattle.contract.specs.declared.contract.Doubling.{Doubling}
use Rattle.contract.specs.declared.contract.Doubling.TheVariants.{Undoubled, Doubled, Redoubled}
use Rattle.scoring.specs.declared.outcome.Outcome.{Outcome}
use Rattle.scoring.specs.declared.outcome.Outcome.TheVariants.{Made, Down}
use Rattle.contract.specs.Vulnerable.{vulnerability_of, vulnerable, north_south}

-- tricks that the contract needs
abbrev pub needed : Contract → ℕ
needed c = c.level + 6

abbrev pub trick_value : Denomination → ℕ
trick_value Clubs = 20
trick_value Diamonds = 20
trick_value Hearts = 30
trick_value Spades = 30
trick_value NoTrump = 30

-- what the first trick counts above the others
abbrev pub first_trick_extra : Denomination → ℕ
first_trick_extra Clubs = 0
first_trick_extra Diamonds = 0
first_trick_extra Hearts = 0
first_trick_extra Spades = 0
first_trick_extra NoTrump = 10

abbrev pub multiplier : Doubling → ℕ
multiplier Undoubled = 1
multiplier Doubled = 2
multiplier Redoubled = 4

abbrev pub trick_points_of : Contract → ℕ
trick_points_of c = (c.level * trick_value c.denomination + first_trick_extra c.denomination) * multiplier c.doubling

-- a game has 100 trick points, doubling counted; v says whether declarer's side is vulnerable
abbrev pub game_premium_of : Bool → Contract → ℕ
game_premium_of v c = if nat_le 100 (trick_points_of c) then (if v then 500 else 300) else 50

abbrev pub slam_premium_of : Bool → ℕ → ℕ
slam_premium_of v level = if level == 6 then (if v then 750 else 500) else (if level == 7 then (if v then 1500 else 1000) else 0)

abbrev pub insult_premium_of : Doubling → ℕ
insult_premium_of Undoubled = 0
insult_premium_of Doubled = 50
insult_premium_of Redoubled = 100

abbrev pub overtrick_value : Bool → Denomination → Doubling → ℕ
overtrick_value v denomination Undoubled = trick_value denomination
overtrick_value v denomination Doubled = if v then 200 else 100
overtrick_value v denomination Redoubled = 2 * (if v then 200 else 100)

abbrev pub overtrick_points_of : Bool → Contract → ℕ
overtrick_points_of v c = (c.tricks - needed c) * overtrick_value v c.denomination c.doubling

abbrev pub made_score : Bool → Contract → ℕ
made_score v c =
    trick_points_of c + game_premium_of v c + slam_premium_of v c.level + insult_premium_of c.doubling + overtrick_points_of v c

-- what the k-th undertrick costs when doubled
abbrev pub doubled_undertrick : Bool → ℕ → ℕ
doubled_undertrick v k = if nat_le k 1 then (if v then 200 else 100) else (if nat_le k 3 then (if v then 300 else 200) else 300)

abbrev pub undertrick : Bool → Doubling → ℕ → ℕ
undertrick v Undoubled k = if v then 100 else 50
undertrick v Doubled k = doubled_undertrick v k
undertrick v Redoubled k = 2 * doubled_undertrick v k

-- what n undertricks cost
abbrev pub penalty : Bool → Doubling → ℕ → ℕ
penalty v d zero = 0
penalty v d (suc n) = penalty v d n + undertrick v d (suc n)

-- the parts of the score of declarer's side
abbrev pub OutcomeOf : Bool → Contract → Outcome → Type 0
OutcomeOf v c (Made m) =
    (needed c ≤ c.tricks)
    × (m.trick_points ≡ trick_points_of c)
    × (m.game_premium ≡ game_premium_of v c)
    × (m.slam_premium ≡ slam_premium_of v c.level)
    × (m.insult_premium ≡ insult_premium_of c.doubling)
    × (m.overtrick_points ≡ overtrick_points_of v c)
OutcomeOf v c (Down u) =
    (c.tricks < needed c)
    × (u.count ≡ needed c - c.tricks)
    × (u.penalty ≡ penalty v c.doubling (needed c - c.tricks))

abbrev pub outcome_points : Outcome → ℤ
outcome_points (Made m) = pos (m.trick_points + m.game_premium + m.slam_premium + m.insult_premium + m.overtrick_points)
outcome_points (Down u) = neg_ℤ (pos u.penalty)

unfoldable pub declarer_score : Bool → Contract → ℤ
declarer_score v c =
    if nat_le (needed c) c.tricks then pos (made_score v c) else neg_ℤ (pos (penalty v c.doubling (needed c - c.tricks)))

-- the score for North-South
abbrev pub score_on : ℕ → Contract → ℤ
score_on board c =
    let s = declarer_score (vulnerable (vulnerability_of board) c.declarer) c in
    if north_south c.declarer then s else neg_ℤ s
