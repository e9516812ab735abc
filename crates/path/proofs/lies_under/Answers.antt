use mathlib.Core.Path.{◌∙◌}
use Rattle.path.proofs.Strip.{some_copied, under_none, under_found}
use borrow.Author.Rules.{rules}
use Rattle.path.proofs.lies_under.Goals as goal

pub returns-then-is_empty : goal.returns-then-is_empty
returns-then-is_empty c = c.if-is_empty.true ∙ under_none c.args.p.now c.args.d.now (search rules)

pub returns-else-is_empty : goal.returns-else-is_empty
returns-else-is_empty c = c.is_some.ensures ∙ some_copied c.left_after.result ∙ under_found _ _ _ c.left_after.ensures (search rules)
