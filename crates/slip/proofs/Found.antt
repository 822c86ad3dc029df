-- What a reader of a part answers.
use Rattle.std.proofs.Common.{◌≡◌, ℕ, List, ◌++◌, length, nat_eq, true, false, Some, None, Contains, sym, refl, ap, ◌∙◌, arith, Bor}
use Rattle.std.specs.List.{All, between, starts_with}
use Rattle.std.proofs.lemmas.Bool.Decides.{Decides-eqb}
use Rattle.std.proofs.lemmas.List.{append_cancel_left}
use Rattle.std.proofs.lemmas.List.Elements.{All-contains}
use Rattle.std.proofs.lemmas.Slice.{between_to_end}
use Rattle.std.proofs.lemmas.Slice.Eq.{starts_is}
use Rattle.slip.specs.Parts.{Takes, Always}

-- two texts that begin with the same part have the same behind it
pub cut : {X : Type 0} (text : X → List ℕ) (x y : X) (r s : List ℕ) → (text x ++ r ≡ text y ++ s → x ≡ y) → text x ++ r ≡ text y ++ s → (x ≡ y) × (r ≡ s)
cut text x y r s alone e = (alone e, append_cancel_left (text x) r s (e ∙ ap (λ z. text z ++ s) (sym (alone e))))

module _ {S : Type 0} (text : S → List ℕ) (all : List S) (input : List ℕ) where
  pub symbol_found : ((x y : S) (r s : List ℕ) → text x ++ r ≡ text y ++ s → x ≡ y) → (x : S) (rest : Bor (List ℕ)) → Contains all x → starts_with nat_eq input (text x) ≡ true
      → rest.now ≡ between (length (text x)) (length input) input → Takes (Contains all) text Always input (Some (x, rest))
  symbol_found apart x rest has begins behind =
      let split = (starts_is Decides-eqb input (text x) (starts_with nat_eq input (text x)) refl).0 begins in
      let whole = ap (λ r. text x ++ r) (behind ∙ between_to_end input (length (text x)) (length input) (omega arith)) ∙ sym split in
      record { stands = (has, whole); exact = λ y tail _ _ e. cut text x y rest.now tail (apart x y rest.now tail) (whole ∙ sym e) }

  pub symbol_none : All (λ s. starts_with nat_eq input (text s) ≡ false) all → Takes (Contains all) text Always input None
  symbol_none none = record {
    stands = tt;
    exact = λ x rest has _ e.
        let not = All-contains (λ s. starts_with nat_eq input (text s) ≡ false) all x none has in
        let begins = (starts_is Decides-eqb input (text x) (starts_with nat_eq input (text x)) refl).1 rest (sym e) in
        absurd cc;
  }
