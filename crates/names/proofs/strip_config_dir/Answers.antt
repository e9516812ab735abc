use Rattle.names.proofs.Names.{stripped}
use Rattle.names.proofs.strip_config_dir.Goals as goal

pub returns : goal.returns
returns c = stripped c.args.s.now _ c.strip_prefix.ensures.cases
