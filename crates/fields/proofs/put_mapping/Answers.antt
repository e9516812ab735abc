use Rattle.std.proofs.Common.{sym}
use Rattle.emit.proofs.Outputs.{puts_by}
use Rattle.lines.proofs.Rows.{puts_nothing, room_as}
use Rattle.fields.proofs.Ways.{paths_none, paths_empty, paths_full}
use Rattle.fields.proofs.put_mapping.Goals as goal

pub returns-in_default : goal.returns-in_default
returns-in_default c = puts_nothing _ _ (paths_none _ c.in_default.is _ _)

pub put_keys-requires-clause-room : goal.put_keys-requires-clause-room
put_keys-requires-clause-room c = room_as (sym (paths_full _ c.in-Some.is c.args.dir.now c.args.base.now c.string.ensures.value c.in-Some-string.is)) c.requires.room

pub put_line-requires : goal.put_line-requires
put_line-requires c = room_as (sym (paths_empty _ c.in-Some.is c.args.dir.now c.args.base.now c.string.ensures.value c.in-None.is)) c.requires.room

pub returns-in-Some-string : goal.returns-in-Some-string
returns-in-Some-string c = puts_by _ _ _ _ (paths_full _ c.in-Some.is c.args.dir.now c.args.base.now c.string.ensures.value c.in-Some-string.is) c.put_keys.ensures

pub returns-in-None : goal.returns-in-None
returns-in-None c = puts_by _ _ _ _ (paths_empty _ c.in-Some.is c.args.dir.now c.args.base.now c.string.ensures.value c.in-None.is) c.put_line.ensures
