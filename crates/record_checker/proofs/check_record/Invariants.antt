use Prim.Native.Nat.{◌-◌}
use lib.ListN.{length}
use Prim.Native.Nat.{◌<◌}
use Rattle.verdicts.proofs.Turns.{Sofar}
use Rattle.record_checker.proofs.check_record.Given as goal

abbrev pub invariant-loop-at : goal.invariant-loop-at
invariant-loop-at l = (0 < l.at) × Sofar l.part l.base l.text.bytes.now l.fn.paths.rows l.tally.counts l.tally.last l.keys l.at

abbrev pub decreases-loop-at : goal.decreases-loop-at
decreases-loop-at l = length l.part - l.at
