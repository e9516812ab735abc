use mathlib.Core.Path.{◌≡◌}
use Prim.Native.Nat.{◌-◌}
use lib.ListN.{length}
use Rattle.checker.proofs.Books.{Booked}
use Rattle.checker.proofs.check_book.Given as goal

abbrev pub invariant-loop-at : goal.invariant-loop-at
invariant-loop-at l = (l.paths.text ≡ l.text) × Booked l.commands l.text l.index l.paths.rows l.at

abbrev pub decreases-loop-at : goal.decreases-loop-at
decreases-loop-at l = length l.commands - l.at
