use Rattle.records.specs.Tables.{paths_in}
use Rattle.entries.proofs.Beside.{meant_beside}
use Rattle.entries.proofs.find_meant.Goals as goal

pub returns-in-Some : goal.returns-in-Some
returns-in-Some c = let a = c.args in meant_beside (paths_in a.paths.now) a.dir.now a.s.now _ c.find_beside.ensures _ c.in-Some.is
