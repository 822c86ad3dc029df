-- Mitchell and skip Mitchell keep the laws, each by how far East-West have gone.
use Rattle.std.proofs.Common.{◌≡◌, ℕ, ◌+◌, ◌-◌, ◌/◌, ◌%◌, ◌≤◌, nat_le, if◌then◌else◌, arith}
use Rattle.std.proofs.lemmas.Bool.Decides.{nat_tests}
use Rattle.plan.specs.Laws.{Laws, In}
use Rattle.plan.specs.Movements.{mitchell, skip_mitchell}
use Rattle.plan.specs.Turns.{Turns}
use Rattle.plan.proofs.Rotating.{rotating_lawful}

-- one table for each round, so that the sets, too, are met two by two around an odd circle
pub mitchell_turns : (tables rounds : ℕ) → tables ≤ 16 → tables % 2 ≡ 1 → In tables rounds → Turns tables rounds (λ r. r - 1)
mitchell_turns tables rounds small odd range = record {
  tables_most = small;
  rounds_in_range = range;
  less = λ r h. omega arith;
  further = λ r r' h h' e. omega arith;
  closer = λ r r' h h' e. omega arith;
  no_turn = λ r r' h h' e. omega arith;
}

pub mitchell_lawful : (tables rounds : ℕ) → tables ≤ 16 → tables % 2 ≡ 1 → In tables rounds → Laws (mitchell tables rounds)
mitchell_lawful tables rounds small odd range = rotating_lawful tables rounds (λ r. r - 1) (mitchell_turns tables rounds small odd range)

-- one table more from the middle of an even circle on, so that the sets are met at odd steps first and at even ones then
pub skip_mitchell_turns : (tables rounds : ℕ) → tables ≤ 16 → tables % 2 ≡ 0 → 1 ≤ rounds → rounds + 1 ≤ tables
    → Turns tables rounds (λ r. if nat_le r (tables / 2) then r - 1 else r)
skip_mitchell_turns tables rounds small even some fewer = record {
  tables_most = small;
  rounds_in_range = (some, omega arith);
  less = λ r h. grind (arith, nat_tests);
  further = λ r r' h h' e. grind (arith, nat_tests);
  closer = λ r r' h h' e. grind (arith, nat_tests);
  no_turn = λ r r' h h' e. grind (arith, nat_tests);
}

pub skip_mitchell_lawful : (tables rounds : ℕ) → tables ≤ 16 → tables % 2 ≡ 0 → 1 ≤ rounds → rounds + 1 ≤ tables → Laws (skip_mitchell tables rounds)
skip_mitchell_lawful tables rounds small even some fewer =
    rotating_lawful tables rounds (λ r. if nat_le r (tables / 2) then r - 1 else r) (skip_mitchell_turns tables rounds small even some fewer)
