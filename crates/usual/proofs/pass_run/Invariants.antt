use Prim.Native.Nat.{◌-◌}
use lib.ListN.{length}
use Rattle.usual.proofs.Passing.{Running}
use Rattle.usual.proofs.pass_run.Given as goal

abbrev pub invariant-loop-tally : goal.invariant-loop-tally
invariant-loop-tally g l = Running l.part l.text.bytes.now l.fn.tally.counts l.fn.tally.last l.at l.op l.tally.counts l.tally.last l.to

abbrev pub decreases-loop-tally : goal.decreases-loop-tally
decreases-loop-tally g l = length l.part - l.to
