use Rattle.std.proofs.Common.{◌≡◌, ◌-◌, drop, ◌&&◌}
use Rattle.join.specs.Plain.{plain_names}
use Rattle.join.proofs.Plain.{names_after}
use Rattle.join.proofs.has_plain_names.Given as goal

abbrev pub invariant-loop-i : goal.invariant-loop-i
invariant-loop-i l = plain_names l.s ≡ l.plain && names_after (drop (l.i - 1) l.s)
