use Rattle.std.proofs.Common.{◌≡◌, ◌≤◌, not, ◌&&◌}
use Rattle.normal.specs.Scan.{names_behind}
use Rattle.normal.proofs.Names.{behind}
use Rattle.normal.proofs.has_many_names.Given as goal

abbrev pub invariant-loop-i : goal.invariant-loop-i
invariant-loop-i l = (3 ≤ l.i) × (names_behind l.s ≡ not l.bad && behind l.s l.i)
