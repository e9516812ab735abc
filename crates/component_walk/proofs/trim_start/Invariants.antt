use mathlib.Core.Path.{◌≡◌}
use lib.ListN.{length}
use Rattle.components.specs.Components.{split, trim_start}
use Rattle.component_walk.proofs.trim_start.Given as goal

abbrev pub invariant-loop-t : goal.invariant-loop-t
invariant-loop-t l = trim_start (split l.t) ≡ trim_start (split l.s)

abbrev pub decreases-loop-t : goal.decreases-loop-t
decreases-loop-t l = length l.t
