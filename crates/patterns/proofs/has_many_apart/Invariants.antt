use Rattle.std.proofs.Common.{◌≡◌, ◌≤◌, not, ◌&&◌}
use Rattle.patterns.specs.Scan.{stars_apart}
use Rattle.patterns.proofs.Stars.{apart}
use Rattle.patterns.proofs.has_many_apart.Given as goal

abbrev pub invariant-loop-i : goal.invariant-loop-i
invariant-loop-i l = (2 ≤ l.i) × (stars_apart l.s ≡ not l.crowd && apart l.s l.i)
