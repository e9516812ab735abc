use Rattle.records.specs.Looks.{Unlike}
use Rattle.records.proofs.PathTable.next_like.Given as goal

abbrev pub invariant-loop-j : goal.invariant-loop-j
invariant-loop-j l = Unlike l.self.text.now l.self.rows.now l.x l.k l.y l.m l.i l.j
