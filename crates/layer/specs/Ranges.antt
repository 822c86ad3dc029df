-- What is asked before a layer is laid over a plan.
use Rattle.std.specs.Prelude.{ℕ, Bool, ◌&&◌, List, [], ◌∷◌, nat_le}
use Rattle.refusal.specs.declared.Refusal.{Refusal}
use Rattle.refusal.specs.declared.Refusal.TheVariants.{LayerOutOfRange}
use Rattle.plan.specs.Plan.{Plan, within}

-- there is such a pair
abbrev pub missing_pair_range : Plan → ℕ → List (Bool × Refusal)
missing_pair_range m p = (within m.pairs p, LayerOutOfRange) ∷ []

-- there is such a round, and it is not the first
abbrev pub arrow_switch_range : Plan → ℕ → List (Bool × Refusal)
arrow_switch_range m k = (nat_le 2 k && nat_le k m.rounds, LayerOutOfRange) ∷ []
