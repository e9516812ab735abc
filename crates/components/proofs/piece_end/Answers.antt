use mathlib.Core.Path.{◌∙◌}
use Rattle.components.proofs.Pieces.{end_last, end_slash, end_within}
use native.Mathlib.Omega.{arith}
use Rattle.components.proofs.piece_end.Goals as goal

pub returns-in_default : goal.returns-in_default
returns-in_default c = c.max.ensures ∙ end_last _ _ _ c.from.ensures _ c.find_byte.ensures c.in_default.is

pub overflow_add-result : goal.overflow_add-result
overflow_add-result c = let a = c.args in omega (arith, end_within a.s.now a.at _ c.from.ensures _ c.find_byte.ensures _ c.in-Some.is)

pub returns : goal.returns
returns c = end_slash _ _ _ c.from.ensures _ c.find_byte.ensures _ c.in-Some.is
