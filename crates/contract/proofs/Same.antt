-- Two contracts are the same where all that was bid and won is.
use Rattle.std.proofs.Common.{◌≡◌}
use Rattle.contract.specs.declared.contract.Contract.{Contract}
use Rattle.contract.specs.contracts.contract.Contract.{the_type}

pub same_contract : (a b : Contract) → a.level ≡ b.level → a.denomination ≡ b.denomination → a.doubling ≡ b.doubling
    → a.declarer ≡ b.declarer → a.tricks ≡ b.tricks → a ≡ b
same_contract a b level denomination doubling declarer tricks = the_type.to_one a b cc
