use Rattle.entries.proofs.Going.{Unread}
use Rattle.entries.proofs.unread.Given as goal

abbrev pub invariant-loop-entry : goal.invariant-loop-entry
invariant-loop-entry l = Unread l.entries l.entry-index
