use Rattle.std.proofs.Common.{sym}
use Rattle.emit.proofs.Outputs.{puts_by}
use Rattle.lines.proofs.Rows.{puts_nothing, room_as}
use Rattle.fields.proofs.Ways.{list_none, list_empty, list_full}
use Rattle.fields.proofs.put_list.Goals as goal

pub returns-in_default : goal.returns-in_default
returns-in_default c = puts_nothing _ _ (list_none _ c.in_default.is _ _ _)

pub put_strings-requires-clause-room : goal.put_strings-requires-clause-room
put_strings-requires-clause-room c = room_as (sym (list_full _ c.in-Some.is _ c.string.ensures.value c.args.name.now c.args.dir.now c.in-Some-string.is)) c.requires.room

pub put_line-requires : goal.put_line-requires
put_line-requires c = room_as (sym (list_empty _ c.in-Some.is _ c.string.ensures.value c.args.name.now c.args.dir.now c.in-None.is)) c.requires.room

pub returns-in-Some-string : goal.returns-in-Some-string
returns-in-Some-string c = puts_by _ _ _ _ (list_full _ c.in-Some.is _ c.string.ensures.value c.args.name.now c.args.dir.now c.in-Some-string.is) c.put_strings.ensures

pub returns-in-None : goal.returns-in-None
returns-in-None c = puts_by _ _ _ _ (list_empty _ c.in-Some.is _ c.string.ensures.value c.args.name.now c.args.dir.now c.in-None.is) c.put_line.ensures
