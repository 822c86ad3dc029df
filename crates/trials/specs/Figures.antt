-- Figures worked out from the rules, each beside what the definitions give.
use Rattle.std.specs.Prelude.{◌≡◌, ℕ, T, List, [], ◌∷◌, ℤ, pos, neg_ℤ, Some, Option, nat_le}
use Rattle.std.proofs.Common.{lit≤}
use Rattle.contract.specs.declared.contract.Contract.{Contract}
use Rattle.contract.specs.declared.contract.Declarer.TheVariants.{North}
use Rattle.contract.specs.declared.contract.Denomination.{Denomination}
use Rattle.contract.specs.declared.contract.Denomination.TheVariants.{Diamonds, Hearts, Spades, NoTrump}
use Rattle.contract.specs.declared.contract.Doubling.{Doubling}
use Rattle.contract.specs.declared.contract.Doubling.TheVariants.{Undoubled, Doubled, Redoubled}
use Rattle.scoring.specs.Law.{score_on}
use Rattle.comparison.specs.Ways.{imp_step}
use Rattle.plan.specs.Plan.{Seat}
use Rattle.plan.specs.Movements.{skip_mitchell, howell}

-- a contract that North declared
abbrev north : (level : ℕ) → Denomination → Doubling → (tricks : ℕ) → T (nat_le 1 level) → T (nat_le level 7) → T (nat_le tricks 13) → Contract
north level denomination doubling tricks p q r = record {
  level = level;
  denomination = denomination;
  doubling = doubling;
  declarer = North;
  tricks = tricks;
  lowest = lit≤ p;
  highest = lit≤ q;
  most_tricks = lit≤ r;
}

-- what a definition gives, beside what it should give
pub data Figure : Type 0 where
  points : ℤ → ℤ → Figure
  seat : Option Seat → Option Seat → Figure

abbrev pub Holds : Figure → Type 0
Holds (points found expected) = found ≡ expected
Holds (seat found expected) = found ≡ expected

-- nobody is vulnerable on board 1, and both sides are on board 4
abbrev pub worked : List Figure
worked =
    points (score_on 4 (north 1 NoTrump Redoubled 13 tt tt tt)) (pos 3160)
    ∷ points (score_on 4 (north 7 NoTrump Redoubled 0 tt tt tt)) (neg_ℤ (pos 7600))
    ∷ points (score_on 1 (north 2 Hearts Doubled 8 tt tt tt)) (pos 470)
    ∷ points (score_on 1 (north 4 Spades Doubled 6 tt tt tt)) (neg_ℤ (pos 800))
    ∷ points (score_on 4 (north 6 Diamonds Undoubled 12 tt tt tt)) (pos 1370)
    ∷ points (pos (imp_step 10)) (pos 0)
    ∷ points (pos (imp_step 20)) (pos 1)
    ∷ points (pos (imp_step 740)) (pos 12)
    ∷ points (pos (imp_step 750)) (pos 13)
    ∷ seat ((skip_mitchell 4 3).seat 3 1) (Some (1, 6, 3))
    ∷ seat ((howell 7).seat 2 4) (Some (3, 7, 1))
    ∷ []
