use Rattle.records.specs.Tables.{paths_in}
use Rattle.records.proofs.Paths.{named_in}
use Rattle.records.proofs.PathTable.named_in.Goals as goal

pub returns : goal.returns
returns c = named_in (paths_in c.args.self.now) c.args.d.now c.args.name.now _ c.wants_slash.ensures _ c.find_joined.ensures
