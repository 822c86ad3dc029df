use Rattle.std.proofs.Common.{sym, rules}
use Rattle.std.proofs.lemmas.List.{nil_from_length}
use Rattle.slip.proofs.GroupTexts.{group_found}
use Rattle.slip.proofs.group.read_group.Goals as goal

pub returns-then-is_empty : goal.returns-then-is_empty
returns-then-is_empty c = group_found _ c.args.input.now (sym (nil_from_length c.args.input.now (search rules)))

pub returns : goal.returns
returns c = group_found _ c.args.input.now (search rules)
