use Rattle.std.proofs.Common.{◌+◌, ◌*◌, length}
use Rattle.load.proofs.Walks.{spare, Walking}
use Rattle.load.proofs.Loads.+bring_load_walk.Given as goal

abbrev pub decreases-bring : goal.decreases-bring
decreases-bring l = spare l.on * 3 + 1

abbrev pub decreases-load : goal.decreases-load
decreases-load l = spare l.on * 3

abbrev pub decreases-walk : goal.decreases-walk
decreases-walk l = spare l.on * 3 + 2

abbrev pub invariant-walk-loop-left : goal.invariant-walk-loop-left
invariant-walk-loop-left l = Walking l.initial.self l.on l.c l.entries l.fn.own l.left l.row l.self

abbrev pub decreases-walk-loop-left : goal.decreases-walk-loop-left
decreases-walk-loop-left l = length l.left
