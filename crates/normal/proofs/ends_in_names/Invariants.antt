use Rattle.std.proofs.Common.{◌≡◌, drop}
use Rattle.normal.specs.Scan.{names_behind}
use Rattle.normal.proofs.ends_in_names.Given as goal

abbrev pub invariant-loop-i : goal.invariant-loop-i
invariant-loop-i l = names_behind (drop l.i l.s) ≡ names_behind l.s
