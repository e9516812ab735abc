use borrow.Author.Rules.{rules}
use Rattle.matching.proofs.Patterns.{allowed_by}
use Rattle.matching.proofs.is_allowed.Goals as goal

pub returns : goal.returns
returns c = rw (← c.extension.ensures) (allowed_by _ _ _ _ (λ x h. search rules) c.is_some_and.ensures)
