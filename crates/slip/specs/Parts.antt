-- What a reader of a part of a slip answers.
use Rattle.std.specs.Prelude.{◌≡◌, ℕ, ◌≤◌, List, [], ◌∷◌, ◌++◌, IfSome, Some, Option, MatchOption}
use Rattle.std.specs.Borrow.{Bor}
use Rattle.returns.specs.declared.returned.Return.{Return}
use Rattle.returns.specs.declared.returned.Return.TheVariants.{Scored, Passed, Averages}

abbrev pub Always : {X : Type 0} → X → Type 0
Always _ = Unit {0}

abbrev pub IsLevel : ℕ → Type 0
IsLevel n = (1 ≤ n) × (n ≤ 7)

abbrev pub IsTricks : ℕ → Type 0
IsTricks n = n ≤ 13

-- nothing, or a space first
abbrev pub IsEnd : List ℕ → Type 0
IsEnd [] = Unit {0}
IsEnd (b ∷ _) = b ≡ 32

-- `text` says how a part is written, `Is` which parts there are, and `Ends` what may stand behind one.
module _ {X : Type 0} (Is : X → Type 0) (text : X → List ℕ) (Ends : List ℕ → Type 0) where
  -- The input begins with the part that is answered; and if it begins with some part, that one is answered. Behind it is the rest.
  pub record Takes (input : List ℕ) (answer : Option (X × Bor (List ℕ))) : Type 0 where
    pub stands : IfSome answer (λ p. Is p.0 × (text p.0 ++ p.1.now ≡ input))
    pub exact : (x : X) (rest : List ℕ) → Is x → Ends rest → text x ++ rest ≡ input → MatchOption answer ⊥ (λ p. (p.0 ≡ x) × (p.1.now ≡ rest))

-- The input is the text of what is answered; and if it is the text of something, that is answered.
pub record Whole {X : Type 0} (Is : X → Type 0) (text : X → List ℕ) (input : List ℕ) (answer : Option X) : Type 0 where
  pub stands : IfSome answer (λ x. Is x × (text x ≡ input))
  pub exact : (x : X) → Is x → text x ≡ input → answer ≡ Some x

abbrev pub IsScored : Return → Type 0
IsScored (Scored c g) = Unit {0}
IsScored (Passed g) = ⊥
IsScored (Averages ns ew) = ⊥

abbrev pub IsPassed : Return → Type 0
IsPassed (Scored c g) = ⊥
IsPassed (Passed g) = Unit {0}
IsPassed (Averages ns ew) = ⊥

abbrev pub IsAverages : Return → Type 0
IsAverages (Scored c g) = ⊥
IsAverages (Passed g) = ⊥
IsAverages (Averages ns ew) = Unit {0}
