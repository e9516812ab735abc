use Rattle.records.specs.Tables.{paths_in}
use Rattle.records.proofs.Paths.{whole_path}
use Rattle.records.proofs.PathTable.find.Goals as goal

pub returns : goal.returns
returns c = whole_path (paths_in c.args.self.now) c.args.p.now _ c.find_joined.ensures
