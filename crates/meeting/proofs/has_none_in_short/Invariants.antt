use Rattle.std.proofs.Common.{ℕ, ◌≡◌, ◌+◌, ◌<◌, ◌≤◌, false}
use Rattle.meeting.specs.Files.{file_above}
use Rattle.meeting.proofs.has_none_in_short.Given as goal

abbrev pub invariant-loop-i : goal.invariant-loop-i
invariant-loop-i l = (3 ≤ l.i) × ((j : ℕ) → j + 3 < l.i → file_above l.s j ≡ false)
