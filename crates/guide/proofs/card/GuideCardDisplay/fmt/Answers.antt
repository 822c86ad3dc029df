use Rattle.std.proofs.Common.{◌≡◌, true, refl, ap, subst, arith, rules}
use Rattle.std.specs.Fmt.{HasWritten}
use Rattle.std.proofs.Output.{has_written_append}
use Rattle.plan.specs.declared.boards.BoardsPerSet.{BoardsPerSet}
use Rattle.guide.specs.Cards.{heading, lines_text}
use Rattle.guide.proofs.Lines.{next_line}
use Rattle.guide.proofs.card.GuideCardDisplay.fmt.Goals as goal

pub loop-round-preserved : goal.loop-round-preserved
loop-round-preserved g c plain =
    let card = c.args.self.now in
    let m = g.M.Movement.plan card.movement.now in
    let l = c.line-line in
    let before = c.loop-round.invariant plain in
    let line = c.in_ok-write.ensures.writes before.plain (refl {a = true}) in
    let lines = next_line g.W.Write.write_str_gives m card.pair card.boards.boards c.loop-round.round l.result c.writeln.new.self c.loop-round.f c.write.new.self c.loop-round.auto.round l.ensures.round l.ensures.place (ap (λ (b : BoardsPerSet). b.boards) l.ensures.boards) before line in
    search rules

pub returns-in_ok-write-clause-writes : goal.returns-in_ok-write-clause-writes
returns-in_ok-write-clause-writes g c plain ok =
    let card = c.args.self.now in
    let m = g.M.Movement.plan card.movement.now in
    let l = c.line-line in
    let head = subst (λ field. HasWritten g.W.Write.write_str_gives c.args.f.now (heading card.pair field) c.writeln.new.self) c.field-field.ensures (c.in_ok-writeln.ensures.writes plain ok) in
    let before = c.loop-round.invariant head.plain in
    let line = c.in_ok-write.ensures.writes before.plain (refl {a = true}) in
    let lines = next_line g.W.Write.write_str_gives m card.pair card.boards.boards c.loop-round.round l.result c.writeln.new.self c.loop-round.f c.write.new.self c.loop-round.auto.round l.ensures.round l.ensures.place (ap (λ (b : BoardsPerSet). b.boards) l.ensures.boards) before line in
    let last : c.loop-round.round ≡ m.rounds = omega arith in
    has_written_append g.W.Write.write_str_gives c.args.f.now (heading card.pair (m.field card.pair)) c.writeln.new.self (lines_text m card.pair card.boards.boards m.rounds) c.write.new.self head (search rules)
