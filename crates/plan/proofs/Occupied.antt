-- An occupied table is one of the plan's, in one of its rounds.
use Rattle.std.proofs.Common.{◌≡◌, ℕ, ◌⊎◌, Some, inl, inr, arith}
use Rattle.std.proofs.lemmas.Bool.{cases_lt}
use Rattle.plan.specs.Plan.{Plan, Seat}
use Rattle.plan.specs.Laws.{Laws, In}

pub cases_in : (n k : ℕ) → In n k ⊎ (In n k → ⊥)
cases_in n k =
    elim (cases_lt k 1) [
      | inl low ↦ inr (λ h. omega arith)
      | inr least ↦ elim (cases_lt n k) [
        | inl high ↦ inr (λ h. omega arith)
        | inr most ↦ inl (least, most)
      ]
    ]

pub occupied_in : (m : Plan) → Laws m → (r t : ℕ) (s : Seat) → m.seat r t ≡ Some s → In m.rounds r × In m.tables t
occupied_in m laws r t s e = go (cases_in m.rounds r) (cases_in m.tables t)
  where
    go : In m.rounds r ⊎ (In m.rounds r → ⊥) → In m.tables t ⊎ (In m.tables t → ⊥) → In m.rounds r × In m.tables t
    go (inl round) (inl table) = (round, table)
    go (inl round) (inr off) = absurd (grind (arith, laws.empty_outside r t (λ h. off h.1)))
    go (inr off) table = absurd (grind (arith, laws.empty_outside r t (λ h. off h.0)))
