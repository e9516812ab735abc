use Rattle.std.proofs.Common.{◌≡◌, ◌≤◌}
use Rattle.patterns.specs.Scan.{stars_apart}
use Rattle.patterns.proofs.Stars.{apart}
use Rattle.patterns.proofs.has_few_apart.Given as goal

abbrev pub invariant-loop-i : goal.invariant-loop-i
invariant-loop-i l = (2 ≤ l.i) × (apart l.s l.i ≡ stars_apart l.s)
