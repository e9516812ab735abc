use Rattle.names.specs.Names.{tsconfig_json}
use Rattle.records.specs.Tables.{paths_in}
use Rattle.records.proofs.Paths.{named_in}
use Rattle.records.proofs.PathTable.config_in.Goals as goal

pub returns : goal.returns
returns c = named_in (paths_in c.args.self.now) c.args.d.now tsconfig_json _ c.wants_slash.ensures _ c.find_joined.ensures
