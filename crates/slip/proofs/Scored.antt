-- A scored return that is read part by part.
use Rattle.std.proofs.Common.{◌≡◌, ℕ, List, ◌++◌, Some, None, Contains, codes, decimal, sym, ap, ◌∙◌, append_assoc}
use Rattle.contract.specs.declared.contract.Contract.{Contract}
use Rattle.contract.specs.declared.contract.Declarer.{Declarer}
use Rattle.contract.specs.declared.contract.Denomination.{Denomination}
use Rattle.contract.specs.declared.contract.Doubling.{Doubling}
use Rattle.contract.proofs.Same.{same_contract}
use Rattle.returns.specs.declared.group.Group.{Group}
use Rattle.returns.specs.declared.returned.Return.TheVariants.{Scored, Passed, Averages}
use Rattle.slip.specs.Letters.{denomination_text, doubling_text, doubling_part, declarer_text}
use Rattle.slip.specs.Slips.{group_text, slip_of}
use Rattle.slip.specs.Parts.{Whole, Always, IsLevel, IsTricks, IsScored}
use Rattle.slip.proofs.Chains.{Format, ReadAs, before, after_word}
use Rattle.slip.proofs.Symbols.{denominations, every_denomination, doublings, every_doubling, declarers, every_declarer}

abbrev pub behind_tricks : Format Group
behind_tricks = record { Is = Always; text = group_text }

abbrev pub behind_space : Format (ℕ × Group)
behind_space = before IsTricks decimal behind_tricks

abbrev pub behind_declarer : Format (ℕ × Group)
behind_declarer = after_word (codes " ") behind_space

abbrev pub behind_doubling : Format (Declarer × (ℕ × Group))
behind_doubling = before (Contains declarers) declarer_text behind_declarer

abbrev pub behind_denomination : Format (Doubling × (Declarer × (ℕ × Group)))
behind_denomination = before (Contains doublings) doubling_part behind_doubling

abbrev pub behind_level : Format (Denomination × (Doubling × (Declarer × (ℕ × Group))))
behind_level = before (Contains denominations) denomination_text behind_denomination

abbrev Parts : Type 0
Parts = ℕ × (Denomination × (Doubling × (Declarer × (ℕ × Group))))

abbrev pub scored : Format Parts
scored = before IsLevel decimal behind_level

abbrev parts : Contract → Group → Parts
parts c g = (c.level, (c.denomination, (c.doubling, (c.declarer, (c.tricks, g)))))

are : (c : Contract) (g : Group) → scored.Is (parts c g)
are c g = ((c.lowest, c.highest), (every_denomination c.denomination, (every_doubling c.doubling, (every_declarer c.declarer, (c.most_tricks, tt)))))

written : (c : Contract) (g : Group) → scored.text (parts c g) ≡ slip_of (Scored c g)
written c g = ap (λ tail. decimal c.level ++ (denomination_text c.denomination ++ tail)) (append_assoc (doubling_text c.doubling) (codes " ") (behind_doubling.text (c.declarer, (c.tricks, g))))

pub not_scored : {input : List ℕ} → ReadAs scored input None → Whole IsScored slip_of input None
not_scored none = record {
  stands = tt;
  exact = elim [
    | Scored c g ↦ λ is e. absurd (let never = none.exact (parts c g) (are c g) (written c g ∙ e) in cc)
    | Passed g ↦ λ is e. absurd is
    | Averages ns ew ↦ λ is e. absurd is
  ];
}

pub is_scored : {input : List ℕ} (c : Contract) (g : Group) → ReadAs scored input (Some (parts c g)) → Whole IsScored slip_of input (Some (Scored c g))
is_scored c g read = record {
  stands = (tt, sym (written c g) ∙ read.stands.1);
  exact = elim [
    | Scored c' g' ↦ λ is e.
        let same = read.exact (parts c' g') (are c' g') (written c' g' ∙ e) in
        let all : parts c g ≡ parts c' g' = cc in
        let contract = same_contract c c' (ap (λ x. x.0) all) (ap (λ x. x.1.0) all) (ap (λ x. x.1.1.0) all) (ap (λ x. x.1.1.1.0) all) (ap (λ x. x.1.1.1.1.0) all) in
        λ i. Some (Scored (contract i) (all i).1.1.1.1.1)
    | Passed g' ↦ λ is e. absurd is
    | Averages ns ew ↦ λ is e. absurd is
  ];
}
