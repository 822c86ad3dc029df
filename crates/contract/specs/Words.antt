-- The words in which contracts are printed.
use Rattle.std.specs.Prelude.{List, ℕ, ◌++◌, codes, decimal}
use Rattle.contract.specs.declared.contract.Contract.{Contract}
use Rattle.contract.specs.declared.contract.Declarer.{Declarer}
use Rattle.contract.specs.declared.contract.Declarer.TheVariants.{North, East, South, West}
use Rattle.contract.specs.declared.contract.Denomination.{Denomination}
use Rattle.contract.specs.declared.contract.Denomination.TheVariants.{Clubs, Diamonds, Hearts, Spades, NoTrump}
use Rattle.contract.specs.declared.contract.Doubling.{Doubling}
use Rattle.contract.specs.declared.contract.Doubling.TheVariants.{Undoubled, Doubled, Redoubled}
use Rattle.contract.specs.declared.vulnerability.Vulnerability.{Vulnerability}
use Rattle.contract.specs.declared.vulnerability.Vulnerability.TheVariants.{Neither, NorthSouth, EastWest, Both}

abbrev pub denomination_words : Denomination → List ℕ
denomination_words Clubs = codes "clubs"
denomination_words Diamonds = codes "diamonds"
denomination_words Hearts = codes "hearts"
denomination_words Spades = codes "spades"
denomination_words NoTrump = codes "no-trump"

-- behind a denomination
abbrev pub doubling_words : Doubling → List ℕ
doubling_words Undoubled = codes ""
doubling_words Doubled = codes " doubled"
doubling_words Redoubled = codes " redoubled"

abbrev pub declarer_words : Declarer → List ℕ
declarer_words North = codes "North"
declarer_words East = codes "East"
declarer_words South = codes "South"
declarer_words West = codes "West"

-- as `4 spades doubled by North, 10 tricks`
abbrev pub contract_words : Contract → List ℕ
contract_words c =
    decimal c.level ++ (codes " " ++ (denomination_words c.denomination ++ (doubling_words c.doubling ++
    (codes " by " ++ (declarer_words c.declarer ++ (codes ", " ++ (decimal c.tricks ++ codes " tricks")))))))

abbrev pub vulnerability_words : Vulnerability → List ℕ
vulnerability_words Neither = codes "nobody vulnerable"
vulnerability_words NorthSouth = codes "North-South vulnerable"
vulnerability_words EastWest = codes "East-West vulnerable"
vulnerability_words Both = codes "both sides vulnerable"
