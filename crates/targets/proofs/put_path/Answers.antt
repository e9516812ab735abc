use Rattle.targets.proofs.Lays.{path_size, path_text, path_done}
use Rattle.targets.proofs.put_path.Goals as goal

pub put_size-requires-clause-room : goal.put_size-requires-clause-room
put_size-requires-clause-room c = path_size _ c.args.out.now c.requires.room

pub put_text-requires : goal.put_text-requires
put_text-requires c = path_text _ c.args.out.now c.requires.room _ c.put_size.ensures

pub returns : goal.returns
returns c = path_done _ c.args.out.now c.requires.room _ c.put_size.ensures _ c.put_text.ensures
