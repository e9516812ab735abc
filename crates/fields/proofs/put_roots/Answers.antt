use Rattle.std.proofs.Common.{sym}
use Rattle.emit.proofs.Outputs.{puts_by}
use Rattle.lines.proofs.Rows.{puts_nothing, room_as}
use Rattle.fields.proofs.Ways.{roots_none, roots_empty, roots_full}
use Rattle.fields.proofs.put_roots.Goals as goal

pub returns-in_default : goal.returns-in_default
returns-in_default c = puts_nothing _ _ (roots_none _ c.in_default.is _)

pub put_root_rows-requires-clause-room : goal.put_root_rows-requires-clause-room
put_root_rows-requires-clause-room c = rw c.dir.ensures.value (room_as (sym (roots_full _ c.in-Some.is c.args.dir.now c.string.ensures.value c.in-Some-string.is)) c.requires.room)

pub put_line-requires : goal.put_line-requires
put_line-requires c = room_as (sym (roots_empty _ c.in-Some.is c.args.dir.now c.string.ensures.value c.in-None.is)) c.requires.room

pub returns-in-Some-string : goal.returns-in-Some-string
returns-in-Some-string c = puts_by _ _ _ _ (roots_full _ c.in-Some.is c.args.dir.now c.string.ensures.value c.in-Some-string.is) (rw c.dir.ensures.value at c.put_root_rows.ensures)

pub returns-in-None : goal.returns-in-None
returns-in-None c = puts_by _ _ _ _ (roots_empty _ c.in-Some.is c.args.dir.now c.string.ensures.value c.in-None.is) c.put_line.ensures
