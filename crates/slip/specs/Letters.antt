-- How the parts of a return are written.
use Rattle.std.specs.Prelude.{ℕ, List, ◌++◌, codes}
use Rattle.contract.specs.declared.contract.Declarer.{Declarer}
use Rattle.contract.specs.declared.contract.Declarer.TheVariants.{North, East, South, West}
use Rattle.contract.specs.declared.contract.Denomination.{Denomination}
use Rattle.contract.specs.declared.contract.Denomination.TheVariants.{Clubs, Diamonds, Hearts, Spades, NoTrump}
use Rattle.contract.specs.declared.contract.Doubling.{Doubling}
use Rattle.contract.specs.declared.contract.Doubling.TheVariants.{Undoubled, Doubled, Redoubled}
use Rattle.returns.specs.declared.average.Average.{Average}
use Rattle.returns.specs.declared.average.Average.TheVariants.{Plus, Even, Minus}

abbrev pub denomination_text : Denomination → List ℕ
denomination_text Clubs = codes "C"
denomination_text Diamonds = codes "D"
denomination_text Hearts = codes "H"
denomination_text Spades = codes "S"
denomination_text NoTrump = codes "N"

abbrev pub doubling_text : Doubling → List ℕ
doubling_text Undoubled = codes ""
doubling_text Doubled = codes "X"
doubling_text Redoubled = codes "XX"

-- a doubling and the space behind it
abbrev pub doubling_part : Doubling → List ℕ
doubling_part d = doubling_text d ++ codes " "

abbrev pub declarer_text : Declarer → List ℕ
declarer_text North = codes "N"
declarer_text East = codes "E"
declarer_text South = codes "S"
declarer_text West = codes "W"

abbrev pub average_text : Average → List ℕ
average_text Plus = codes "+"
average_text Even = codes "="
average_text Minus = codes "-"
