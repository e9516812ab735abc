use Rattle.path_rules.proofs.Lanes.{block_plain}
use Rattle.path_rules.proofs.is_block_plain.Goals as goal

pub returns : goal.returns
returns c = block_plain c.args.s.now c.args.at c.requires
