use borrow.Author.Rules.{rules}
use Rattle.asking.proofs.Lines.{end_within}
use Rattle.asking.proofs.answer_input.Goals as goal

pub overflow_add-branch : goal.overflow_add-branch
overflow_add-branch g c = let w = end_within _ _ _ _ c.find_byte.ensures c.in_ok-find_byte.was in search (rules, w)
