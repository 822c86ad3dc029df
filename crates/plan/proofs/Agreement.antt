-- Lawful plans that agree in their ranges agree everywhere.
use Rattle.std.proofs.Common.{◌≡◌, rules}
use Rattle.plan.specs.Plan.{Plan}
use Rattle.plan.specs.Laws.{Laws}
use Rattle.plan.specs.Agreement.{SameSizes, SameFields, SameSeats}

pub plans_agree : (m n : Plan) → Laws m → Laws n → SameSizes m n → SameFields m n → SameSeats m n → m ≡ n
plans_agree m n laws laws' sizes fields seats = search rules
