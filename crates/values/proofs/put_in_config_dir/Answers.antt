use Rattle.std.proofs.Common.{arith}
use Rattle.values.proofs.Forms.{config_room, config_becomes}
use Rattle.values.proofs.put_in_config_dir.Goals as goal

pub join-requires : goal.join-requires
join-requires c = config_room c.args.dir.now c.args.s.now _ _ c.from.ensures c.without_slashes.ensures c.args.path.now c.requires.empty c.requires.room (omega arith)

pub returns : goal.returns
returns c = config_becomes c.args.dir.now c.args.s.now _ _ c.from.ensures c.without_slashes.ensures c.args.path.now c.requires.empty c.requires.room _ c.join.ensures
