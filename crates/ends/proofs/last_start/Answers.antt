use Rattle.ends.proofs.Ends.{start_none, start_some, start_within}
use native.Mathlib.Omega.{arith}
use Rattle.ends.proofs.last_start.Goals as goal

pub returns-in_default : goal.returns-in_default
returns-in_default c = start_none _ _ c.find_last.ensures c.in_default.is

pub overflow_add-result : goal.overflow_add-result
overflow_add-result c = let s = c.args.s.now in omega (arith, start_within s _ c.find_last.ensures _ c.in-Some.is)

pub returns : goal.returns
returns c = start_some _ _ c.find_last.ensures _ c.in-Some.is
