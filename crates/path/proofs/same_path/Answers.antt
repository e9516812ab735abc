use mathlib.Core.Path.{ap}
use Rattle.std.specs.Prelude.{option_copied}
use Rattle.path.proofs.Strip.{same_nothing, same_ended, same_more}
use native.Mathlib.Omega.{arith}
use borrow.Author.Rules.{rules}
use Rattle.path.proofs.same_path.Goals as goal

pub returns-in-Some-empty : goal.returns-in-Some-empty
returns-in-Some-empty c = same_ended _ _ _ c.left_after.ensures _ (ap option_copied c.in-Some-empty.is) (omega arith)

pub returns-in_default : goal.returns-in_default
returns-in_default c = same_more _ _ _ c.left_after.ensures _ (ap option_copied c.in_default.is) (search rules)

pub returns-in_default-2 : goal.returns-in_default-2
returns-in_default-2 c = same_nothing _ _ _ c.left_after.ensures (ap option_copied c.in_default.is)
