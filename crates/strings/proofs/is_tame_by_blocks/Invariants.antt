use Rattle.std.proofs.Common.{◌-◌, ◌≡◌, ◌&&◌, ◌≤◌, length, take, drop}
use Rattle.strings.specs.Scan.{tame_text, seen_tame}
use Rattle.strings.proofs.is_tame_by_blocks.Given as goal

abbrev pub invariant-loop-i : goal.invariant-loop-i
invariant-loop-i l = (l.i ≤ length l.s) × (seen_tame l.seen.least l.seen.above ≡ tame_text (take l.i l.s) && tame_text (drop l.n l.s))

abbrev pub decreases-loop-i : goal.decreases-loop-i
decreases-loop-i l = l.n - l.i
