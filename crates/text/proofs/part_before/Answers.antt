use mathlib.Core.Path.{◌∙◌}
use Rattle.text.proofs.Parts.{before_all, before_at}
use borrow.Author.Rules.{rules}
use Rattle.text.proofs.part_before.Goals as goal

pub returns-in_default : goal.returns-in_default
returns-in_default c = search (rules, before_all)

pub returns : goal.returns
returns c = let a = c.args in c.upto.ensures ∙ before_at a.b a.s.now _ c.find_byte.ensures _ c.in-Some.is
