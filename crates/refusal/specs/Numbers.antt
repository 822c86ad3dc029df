-- The number and the words of each refusal.
use Rattle.std.specs.Prelude.{ℕ, List, codes}
use Rattle.refusal.specs.declared.Refusal.{Refusal}
use Rattle.refusal.specs.declared.Refusal.TheVariants.{TablesOutOfRange, RoundsOutOfRange, LayerOutOfRange, BoardsPerSetOutOfRange, StoreTooShort, FirstRoundEmpty, NoRoundLeft, RoundNotCalled, TableNotOccupied, BoardNotInSet, AlreadyReturned, NotReturned, ReturnOutOfRange, NoRoundCalled, ReturnMissing, OutputTooShort, BoardNotPlayed, NotASlip}

abbrev pub number_of : Refusal → ℕ
number_of TablesOutOfRange = 1
number_of RoundsOutOfRange = 2
number_of LayerOutOfRange = 3
number_of BoardsPerSetOutOfRange = 4
number_of StoreTooShort = 5
number_of FirstRoundEmpty = 6
number_of NoRoundLeft = 7
number_of RoundNotCalled = 8
number_of TableNotOccupied = 9
number_of BoardNotInSet = 10
number_of AlreadyReturned = 11
number_of NotReturned = 12
number_of ReturnOutOfRange = 13
number_of NoRoundCalled = 14
number_of ReturnMissing = 15
number_of OutputTooShort = 16
number_of BoardNotPlayed = 17
number_of NotASlip = 20

abbrev pub meaning_of : Refusal → List ℕ
meaning_of TablesOutOfRange = codes "not a number of tables for this movement"
meaning_of RoundsOutOfRange = codes "not a number of rounds for this movement"
meaning_of LayerOutOfRange = codes "not a pair or a round of this movement"
meaning_of BoardsPerSetOutOfRange = codes "a set holds 1 to 4 boards"
meaning_of StoreTooShort = codes "the store has too few records"
meaning_of FirstRoundEmpty = codes "nobody sits in the first round"
meaning_of NoRoundLeft = codes "no round is left"
meaning_of RoundNotCalled = codes "the round has not been called"
meaning_of TableNotOccupied = codes "nobody sits at this table"
meaning_of BoardNotInSet = codes "the board is not at this table"
meaning_of AlreadyReturned = codes "there is a return already"
meaning_of NotReturned = codes "there is no return yet"
meaning_of ReturnOutOfRange = codes "level, tricks or group out of range"
meaning_of NoRoundCalled = codes "no round has been called"
meaning_of ReturnMissing = codes "a return is missing"
meaning_of OutputTooShort = codes "the output is too short"
meaning_of BoardNotPlayed = codes "the board has not been played"
meaning_of NotASlip = codes "not a slip"
