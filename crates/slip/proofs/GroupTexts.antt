-- How a group is written: 0 not at all, 1 to 3 as a space, a G and a digit.
use Rattle.std.proofs.Common.{◌≡◌, ℕ, ◌+◌, ◌≤◌, List, [], ◌∷◌, length, get_or, Some, sym, refl, ap, ◌∙◌, arith, rules}
use Rattle.std.proofs.lemmas.Fmt.{decimal_digit}
use Rattle.returns.specs.declared.group.Group.{Group}
use Rattle.returns.specs.contracts.group.Group.{the_type}
use Rattle.slip.specs.Parts.{Whole, Always, IsEnd}
use Rattle.slip.specs.Slips.{group_text}

pub no_group : (g : Group) → g.number ≡ 0 → group_text g ≡ []
no_group g zero = search (rules, zero)

pub written_group : (g : Group) → 1 ≤ g.number → group_text g ≡ 32 ∷ 71 ∷ (48 + g.number) ∷ []
written_group g above = search (rules, decimal_digit)

pub group_ends : (g : Group) → IsEnd (group_text g)
group_ends g = grind (arith, no_group, written_group)

pub same_group : (g h : Group) → group_text g ≡ group_text h → g ≡ h
same_group g h e = the_type.to_one g h (let number : g.number ≡ h.number = grind (arith, e, written_group, no_group) in cc)

pub group_found : (g : Group) (input : List ℕ) → group_text g ≡ input → Whole Always group_text input (Some g)
group_found g input text = record { stands = (tt, text); exact = λ h _ e. ap Some (same_group g h (text ∙ sym e)) }

pub three : (input : List ℕ) → length input ≡ 3 → get_or input 0 0 ∷ get_or input 1 0 ∷ get_or input 2 0 ∷ [] ≡ input
three [] e = absurd (omega arith)
three (a ∷ []) e = absurd (omega arith)
three (a ∷ b ∷ []) e = absurd (omega arith)
three (a ∷ b ∷ d ∷ []) e = refl
three (a ∷ b ∷ d ∷ f ∷ rest) e = absurd (omega arith)

pub ruleset written = (decimal_digit, three)
