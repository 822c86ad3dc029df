-- Each symbol is one of those that are looked for.
use Rattle.std.proofs.Common.{List, [], ◌∷◌, Contains, refl, lit<}
use Rattle.contract.specs.declared.contract.Declarer.{Declarer}
use Rattle.contract.specs.declared.contract.Declarer.TheVariants.{North, East, South, West}
use Rattle.contract.specs.declared.contract.Denomination.{Denomination}
use Rattle.contract.specs.declared.contract.Denomination.TheVariants.{Clubs, Diamonds, Hearts, Spades, NoTrump}
use Rattle.contract.specs.declared.contract.Doubling.{Doubling}
use Rattle.contract.specs.declared.contract.Doubling.TheVariants.{Undoubled, Doubled, Redoubled}
use Rattle.returns.specs.declared.average.Average.{Average}
use Rattle.returns.specs.declared.average.Average.TheVariants.{Plus, Even, Minus}

abbrev pub denominations : List Denomination
denominations = Clubs ∷ Diamonds ∷ Hearts ∷ Spades ∷ NoTrump ∷ []

abbrev pub doublings : List Doubling
doublings = Undoubled ∷ Doubled ∷ Redoubled ∷ []

abbrev pub declarers : List Declarer
declarers = North ∷ East ∷ South ∷ West ∷ []

abbrev pub averages : List Average
averages = Plus ∷ Even ∷ Minus ∷ []

pub every_denomination : (d : Denomination) → Contains denominations d
every_denomination Clubs = (0, lit< tt, refl)
every_denomination Diamonds = (1, lit< tt, refl)
every_denomination Hearts = (2, lit< tt, refl)
every_denomination Spades = (3, lit< tt, refl)
every_denomination NoTrump = (4, lit< tt, refl)

pub every_doubling : (d : Doubling) → Contains doublings d
every_doubling Undoubled = (0, lit< tt, refl)
every_doubling Doubled = (1, lit< tt, refl)
every_doubling Redoubled = (2, lit< tt, refl)

pub every_declarer : (d : Declarer) → Contains declarers d
every_declarer North = (0, lit< tt, refl)
every_declarer East = (1, lit< tt, refl)
every_declarer South = (2, lit< tt, refl)
every_declarer West = (3, lit< tt, refl)

pub every_average : (a : Average) → Contains averages a
every_average Plus = (0, lit< tt, refl)
every_average Even = (1, lit< tt, refl)
every_average Minus = (2, lit< tt, refl)
