use Rattle.std.proofs.Common.{◌≡◌, ◌-◌, ◌≤◌, length}
use Rattle.book.specs.Find.{find}
use Rattle.records.specs.Joined.{path_of}
use Rattle.records.specs.Tables.{paths_in}
use Rattle.records.proofs.Paths.{rest, find_from}
use Rattle.records.proofs.PathTable.find_joined.Given as goal

abbrev pub invariant-loop-look : goal.invariant-loop-look
invariant-loop-look l = record {
  within : l.i ≤ length l.self.rows.now;
  left : find (path_of l.p) (paths_in l.self) ≡ find_from l.i (path_of l.p) (rest l.self.text.now l.self.rows.now l.i);
}

abbrev pub decreases-loop-look : goal.decreases-loop-look
decreases-loop-look l = length l.self.rows.now - l.i
