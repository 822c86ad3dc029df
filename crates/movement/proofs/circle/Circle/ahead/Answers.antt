use Rattle.std.proofs.Common.{◌+◌, pos, ap, ◌∙◌, arith}
use Rattle.plan.proofs.Wrapping.{wrap_from}
use Rattle.movement.proofs.circle.Circle.ahead.Goals as goal

pub returns-clause-value : goal.returns-clause-value
returns-clause-value c =
    let a = c.args.start + c.args.steps in
    c.wrap.ensures.value ∙ wrap_from c.args.self.size (pos a) 0 a (omega arith) (omega arith) (ap pos (omega arith))
