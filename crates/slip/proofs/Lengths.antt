-- How long the parts of a slip are at most.
use Rattle.std.proofs.Common.{◌≡◌, ℕ, ◌<◌, ◌≤◌, length, decimal, arith, rules}
use Rattle.std.proofs.lemmas.Fmt.{decimal_digit, length-decimal-le}
use Rattle.contract.specs.declared.contract.Declarer.{Declarer}
use Rattle.contract.specs.declared.contract.Denomination.{Denomination}
use Rattle.contract.specs.declared.contract.Doubling.{Doubling}
use Rattle.returns.specs.declared.group.Group.{Group}
use Rattle.slip.specs.Letters.{denomination_text, doubling_part, declarer_text}
use Rattle.slip.specs.Slips.{group_text}
use Rattle.slip.proofs.GroupTexts.{no_group, written_group}

pub two_digits_length : (n : ℕ) → n < 100 → length (decimal n) ≤ 2
two_digits_length n small = length-decimal-le 2 n (omega arith) (omega arith) (omega arith)

pub denomination_length : (d : Denomination) → length (denomination_text d) ≡ 1
denomination_length d = search rules

pub doubling_length : (d : Doubling) → length (doubling_part d) ≤ 3
doubling_length d = search rules

pub declarer_length : (d : Declarer) → length (declarer_text d) ≡ 1
declarer_length d = search rules

pub group_length : (g : Group) → length (group_text g) ≤ 3
group_length g = grind (arith, no_group, written_group)

pub ruleset lengths = (decimal_digit, two_digits_length, denomination_length, doubling_length, declarer_length, group_length)
