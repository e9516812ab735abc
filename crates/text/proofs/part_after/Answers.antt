use mathlib.Core.Path.{sym, ◌∙◌}
use Rattle.text.proofs.Parts.{after_none, after_at}
use Rattle.text.proofs.Scans.{find_within}
use native.Mathlib.Omega.{arith}
use Rattle.text.proofs.part_after.Goals as goal

pub returns-in_default : goal.returns-in_default
returns-in_default c = let a = c.args in c.upto.ensures ∙ after_none a.b a.s.now _ c.find_byte.ensures c.in_default.is

pub overflow_add-i : goal.overflow_add-i
overflow_add-i c = let a = c.args in omega (arith, find_within a.b a.s.now _ (sym c.in-Some.is ∙ c.find_byte.ensures))

pub returns : goal.returns
returns c = let a = c.args in c.from.ensures ∙ after_at a.b a.s.now _ c.find_byte.ensures _ c.in-Some.is
