use Rattle.std.proofs.Common.{◌≡◌, ℕ, List, Some, None, Ok, Option, MatchOption, sym, subst, ap, ◌∙◌, arith, rules}
use Rattle.std.specs.Option.{ok_or}
use Rattle.refusal.specs.declared.Refusal.TheVariants.{NotASlip}
use Rattle.returns.specs.declared.returned.Return.{Return}
use Rattle.slip.specs.Parts.{Whole, IsScored, IsPassed, IsAverages}
use Rattle.slip.specs.Reading.{Reads}
use Rattle.slip.specs.Slips.{slip_of}
use Rattle.slip.proofs.Distinct.{unshared}
use Rattle.slip.proofs.reader.read.Goals as goal

read_as : (s : Return) (bytes : List ℕ) → slip_of s ≡ bytes → Reads bytes (Ok s)
read_as s bytes is = record { stands = is; exact = λ t e. ap Ok (unshared s t (is ∙ sym e)); refused_with = tt }

-- what is read form by form, each where those before it answer nothing, is read
by_form : (bytes : List ℕ) (a b d : Option Return) → Whole IsScored slip_of bytes a → MatchOption a (Whole IsPassed slip_of bytes b) (λ s. b ≡ Some s)
    → MatchOption b (Whole IsAverages slip_of bytes d) (λ s. d ≡ Some s) → Reads bytes (ok_or d NotASlip)
by_form bytes (Some s) b d scored passed averages = let last : d ≡ Some s = grind arith in subst (λ r. Reads bytes (ok_or r NotASlip)) (sym last) (read_as s bytes scored.stands.1)
by_form bytes None (Some s) d scored passed averages = subst (λ r. Reads bytes (ok_or r NotASlip)) (sym averages) (read_as s bytes passed.stands.1)
by_form bytes None None (Some s) scored passed averages = read_as s bytes averages.stands.1
by_form bytes None None None scored passed averages = grind arith

pub returns-clause-reads : goal.returns-clause-reads
returns-clause-reads c = simp c.ok_or.ensures.value (by_form c.args.bytes.now c.read_scored.result c.or_else.result c.or_else-2.result c.read_scored.ensures (search rules) (search rules))

pub returns-clause-alone : goal.returns-clause-alone
returns-clause-alone c = unshared
