use Rattle.std.proofs.Common.{◌≡◌, ◌-◌, ◌≤◌, length}
use Rattle.text.specs.Text.{prefix_of, some_of}
use Rattle.records.specs.Joined.{head_of}
use Rattle.records.specs.Tables.{paths_in}
use Rattle.records.proofs.Paths.{rest}
use Rattle.records.proofs.PathTable.is_some_inside.Given as goal

abbrev pub invariant-loop-i : goal.invariant-loop-i
invariant-loop-i l = record {
  within : l.i ≤ length l.self.rows.now;
  left : some_of (prefix_of (head_of l.p)) (paths_in l.self) ≡ some_of (prefix_of (head_of l.p)) (rest l.self.text.now l.self.rows.now l.i);
}

abbrev pub decreases-loop-i : goal.decreases-loop-i
decreases-loop-i l = length l.self.rows.now - l.i
