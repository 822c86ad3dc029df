-- Two returns never share a slip.
use Rattle.std.proofs.Common.{◌≡◌, ℕ, List, ◌++◌, codes, decimal, ap, append_assoc, arith, rules}
use Rattle.std.proofs.lemmas.List.{append_cancel_left}
use Rattle.contract.specs.declared.contract.Contract.{Contract}
use Rattle.contract.specs.declared.contract.Declarer.{Declarer}
use Rattle.contract.specs.declared.contract.Denomination.{Denomination}
use Rattle.contract.specs.declared.contract.Doubling.{Doubling}
use Rattle.contract.proofs.Same.{same_contract}
use Rattle.returns.specs.declared.average.Average.{Average}
use Rattle.returns.specs.declared.group.Group.{Group}
use Rattle.returns.specs.declared.returned.Return.{Return}
use Rattle.returns.specs.declared.returned.Return.TheVariants.{Scored, Passed, Averages}
use Rattle.slip.specs.Letters.{denomination_text, doubling_part, declarer_text, average_text}
use Rattle.slip.specs.Slips.{group_text, slip_of}
use Rattle.slip.proofs.Digits.{one_digit, digit_alone, tricks_alone}
use Rattle.slip.proofs.Found.{cut}
use Rattle.slip.proofs.GroupTexts.{group_ends, same_group}

denominations_apart : (x y : Denomination) (r s : List ℕ) → denomination_text x ++ r ≡ denomination_text y ++ s → x ≡ y
denominations_apart = search rules

doublings_apart : (x y : Doubling) (r s : List ℕ) → doubling_part x ++ r ≡ doubling_part y ++ s → x ≡ y
doublings_apart = search rules

declarers_apart : (x y : Declarer) (r s : List ℕ) → declarer_text x ++ r ≡ declarer_text y ++ s → x ≡ y
declarers_apart = search rules

averages_apart : (x y : Average) (r s : List ℕ) → average_text x ++ r ≡ average_text y ++ s → x ≡ y
averages_apart = search rules

scored_alone : (c d : Contract) (g h : Group) → slip_of (Scored c g) ≡ slip_of (Scored d h) → Scored c g ≡ Scored d h
scored_alone c d g h e =
    let level = cut decimal c.level d.level _ _ (digit_alone c.level d.level _ _ (omega (arith, c.highest)) (omega (arith, d.highest))) e in
    let denomination = cut denomination_text c.denomination d.denomination _ _ (denominations_apart c.denomination d.denomination _ _) level.1 in
    let doubling = cut doubling_part c.doubling d.doubling _ _ (doublings_apart c.doubling d.doubling _ _) (simp append_assoc denomination.1) in
    let declarer = cut declarer_text c.declarer d.declarer _ _ (declarers_apart c.declarer d.declarer _ _) doubling.1 in
    let space = append_cancel_left (codes " ") (decimal c.tricks ++ group_text g) (decimal d.tricks ++ group_text h) declarer.1 in
    let tricks = cut decimal c.tricks d.tricks (group_text g) (group_text h) (tricks_alone c.tricks d.tricks (group_text g) (group_text h) c.most_tricks d.most_tricks (group_ends g) (group_ends h)) space in
    let contract = same_contract c d level.0 denomination.0 doubling.0 declarer.0 tricks.0 in
    let group = same_group g h tricks.1 in
    λ i. Scored (contract i) (group i)

pub unshared : (t u : Return) → slip_of t ≡ slip_of u → t ≡ u
unshared (Scored c g) (Scored d h) e = scored_alone c d g h e
unshared (Scored c g) (Passed h) e = absurd (grind (arith, one_digit))
unshared (Scored c g) (Averages ns ew) e = absurd (grind (arith, one_digit))
unshared (Passed g) (Scored c h) e = absurd (grind (arith, one_digit))
unshared (Passed g) (Passed h) e = ap Passed (same_group g h (append_cancel_left (codes "PASS") (group_text g) (group_text h) e))
unshared (Passed g) (Averages ns ew) e = absurd (grind arith)
unshared (Averages ns ew) (Scored c g) e = absurd (grind (arith, one_digit))
unshared (Averages ns ew) (Passed g) e = absurd (grind arith)
unshared (Averages a b) (Averages d f) e = grind (arith, averages_apart)
