use Rattle.std.proofs.Common.{◌≡◌}
use Rattle.rows.specs.Merge.{merged_to}
use Rattle.merge.proofs.merge_row.Given as goal

abbrev pub invariant-loop-i : goal.invariant-loop-i
invariant-loop-i l = l.row ≡ merged_to l.i l.initial.row l.far
