-- What it is to read a slip.
use Rattle.std.specs.Prelude.{◌≡◌, ℕ, List, IfOk, IfErr, Ok, Result}
use Rattle.refusal.specs.declared.Refusal.{Refusal}
use Rattle.refusal.specs.declared.Refusal.TheVariants.{NotASlip}
use Rattle.returns.specs.declared.returned.Return.{Return}
use Rattle.slip.specs.Slips.{slip_of}

-- A return is answered exactly where the bytes are its slip; all other bytes are refused.
pub record Reads (bytes : List ℕ) (answer : Result Return Refusal) : Type 0 where
  pub stands : IfOk answer (λ t. slip_of t ≡ bytes)
  pub exact : (t : Return) → slip_of t ≡ bytes → answer ≡ Ok t
  pub refused_with : IfErr answer (λ e. e ≡ NotASlip)
