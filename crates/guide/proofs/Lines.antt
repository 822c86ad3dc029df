-- A card is written line by line.
use Rattle.std.proofs.Common.{◌≡◌, ℕ, zero, suc, ◌-◌, ◌≤◌, List, ◌++◌, arith}
use Rattle.std.specs.declared.fmt.Formatter.{Formatter}
use Rattle.std.specs.Fmt.{HasWritten}
use Rattle.std.proofs.Output.{has_written_append, has_written_of_eq}
use Rattle.plan.specs.Plan.{Plan}
use Rattle.guide.specs.declared.line.CardLine.{CardLine}
use Rattle.guide.specs.Places.{place_of}
use Rattle.guide.specs.Cards.{line_text, lines_text}

lines-more : (m : Plan) (pair boards r : ℕ) → 1 ≤ r → lines_text m pair boards r ≡ lines_text m pair boards (r - 1) ++ line_text r (place_of m r pair) boards
lines-more m pair boards zero h = absurd (omega arith)
lines-more m pair boards (suc r) h = grind arith

-- the line of a round, behind those of the rounds before it
pub next_line : {W : Type 0} (took : W → List ℕ → W → Type 0) (m : Plan) (pair boards r : ℕ) (l : CardLine) (f g h : Formatter W) → 1 ≤ r
    → l.round ≡ r → l.place ≡ place_of m r pair → l.boards.boards ≡ boards
    → HasWritten took f (lines_text m pair boards (r - 1)) g → HasWritten took g (line_text l.round l.place l.boards.boards) h
    → HasWritten took f (lines_text m pair boards r) h
next_line took m pair boards r l f g h some round place held before line =
    let lines = has_written_append took f (lines_text m pair boards (r - 1)) g (line_text l.round l.place l.boards.boards) h before line in
    let more = lines-more m pair boards r some in
    has_written_of_eq took f _ _ h (cc) lines
