use mathlib.Core.Path.{◌≡◌}
use lib.ListN.{length}
use Rattle.components.specs.Components.{split}
use Rattle.ends.specs.Ends.{trim_end}
use Rattle.ends.proofs.trim_end.Given as goal

abbrev pub invariant-loop-t : goal.invariant-loop-t
invariant-loop-t l = trim_end (split l.t) ≡ trim_end (split l.s)

abbrev pub decreases-loop-t : goal.decreases-loop-t
decreases-loop-t l = length l.t
