use Rattle.std.proofs.Common.{◌-◌}
use Rattle.std.specs.Fmt.{IsPlainFormatter, HasWritten}
use Rattle.guide.specs.Cards.{lines_text}
use Rattle.guide.proofs.card.GuideCardDisplay.fmt.Given as goal

-- the rounds before this one were written
abbrev pub invariant-loop-round : goal.invariant-loop-round
invariant-loop-round g l = IsPlainFormatter l.initial.f → HasWritten g.W.Write.write_str_gives l.initial.f (lines_text (g.M.Movement.plan l.self.movement.now) l.pair l.self.boards.boards (l.round - 1)) l.f
