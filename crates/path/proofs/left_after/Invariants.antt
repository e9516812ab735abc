use mathlib.Core.Path.{◌≡◌}
use Rattle.components.specs.Components.{split, names}
use Rattle.path.specs.Left.{left_after}
use Rattle.path.proofs.Strip.{left}
use Rattle.path.proofs.left_after.Given as goal

abbrev pub invariant-loop-name : goal.invariant-loop-name
invariant-loop-name l = left (split l.left.rest.now) (names (split l.name-iterator.rest.now)) ≡ left_after l.p l.d
