use borrow.Author.Rules.{rules}
use Rattle.matching.proofs.Patterns.{outside_by}
use Rattle.matching.proofs.is_outside.Goals as goal

pub returns : goal.returns
returns c = rw (← c.extension.ensures) (outside_by _ _ _ _ (λ x h. search rules) c.is_none_or.ensures)
