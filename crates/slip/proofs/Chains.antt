-- What is read part by part: a part, and what stands behind it.
use Rattle.std.proofs.Common.{◌≡◌, List, ℕ, ◌++◌, Some, None, Option, Bor, arith}
use Rattle.std.proofs.lemmas.List.{append_cancel_left}
use Rattle.slip.specs.Parts.{Takes, Whole}

-- what may stand there, and how it is written
pub record Format (X : Type 0) : Type 1 where
  pub Is : X → Type 0
  pub text : X → List ℕ

abbrev pub ReadAs : {X : Type 0} → Format X → List ℕ → Option X → Type 0
ReadAs format input answer = Whole format.Is format.text input answer

-- a part before what `behind` says
abbrev pub before : {X Y : Type 0} → (X → Type 0) → (X → List ℕ) → Format Y → Format (X × Y)
before Is text behind = record { Is = λ z. Is z.0 × behind.Is z.1; text = λ z. text z.0 ++ behind.text z.1 }

abbrev pub after_word : {Y : Type 0} → List ℕ → Format Y → Format Y
after_word word behind = record { Is = behind.Is; text = λ y. word ++ behind.text y }

abbrev pub Follows : {Y : Type 0} → Format Y → (List ℕ → Type 0) → Type 0
Follows {Y} behind Ends = (y : Y) → behind.Is y → Ends (behind.text y)

module _ {X Y : Type 0} {Is : X → Type 0} {text : X → List ℕ} {Ends : List ℕ → Type 0} {input : List ℕ} (behind : Format Y) (follows : Follows behind Ends) where
  pub no_part : Takes Is text Ends input None → ReadAs (before Is text behind) input None
  no_part none = grind arith

  pub no_rest : {x : X} {rest : Bor (List ℕ)} → Takes Is text Ends input (Some (x, rest)) → ReadAs behind rest.now None → ReadAs (before Is text behind) input None
  no_rest takes none = grind arith

  pub both_read : {x : X} {y : Y} {rest : Bor (List ℕ)} → Takes Is text Ends input (Some (x, rest)) → ReadAs behind rest.now (Some y) → ReadAs (before Is text behind) input (Some (x, y))
  both_read {x} {y} takes read = grind arith

module _ {Y : Type 0} {input : List ℕ} (word : List ℕ) (behind : Format Y) where
  pub no_word : ((rest : List ℕ) → input ≡ word ++ rest → ⊥) → ReadAs (after_word word behind) input None
  no_word none = grind arith

  pub word_read : {rest : List ℕ} {answer : Option Y} → input ≡ word ++ rest → ReadAs behind rest answer → ReadAs (after_word word behind) input answer
  word_read {rest} {answer} split read = grind (arith, append_cancel_left)
