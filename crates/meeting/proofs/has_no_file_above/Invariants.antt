use Rattle.std.proofs.Common.{ℕ, ◌≡◌, ◌<◌, false}
use Rattle.meeting.specs.Files.{file_above}
use Rattle.meeting.proofs.has_no_file_above.Given as goal

abbrev pub invariant-loop-i : goal.invariant-loop-i
invariant-loop-i l = (j : ℕ) → j < l.i → file_above l.s j ≡ false
