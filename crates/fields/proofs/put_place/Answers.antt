use Rattle.std.proofs.Common.{sym}
use Rattle.emit.proofs.Outputs.{puts_by}
use Rattle.lines.proofs.Rows.{puts_nothing, room_as}
use Rattle.fields.proofs.Ways.{place_none, place_missing, place_got}
use Rattle.fields.proofs.put_place.Goals as goal

pub returns-in_default : goal.returns-in_default
returns-in_default c = puts_nothing _ _ (place_none _ c.in_default.is _ _ _)

pub put_placed-requires-clause-room : goal.put_placed-requires-clause-room
put_placed-requires-clause-room c = rw c.dir-own.ensures.value (room_as (sym (place_got _ c.in-Some.is _ c.string.ensures.value c.args.name.now c.args.dir.now c.in-Some-string.is)) c.requires.room)

pub returns-in-Some-string : goal.returns-in-Some-string
returns-in-Some-string c = puts_by _ _ _ _ (place_got _ c.in-Some.is _ c.string.ensures.value c.args.name.now c.args.dir.now c.in-Some-string.is) (rw c.dir-own.ensures.value at c.put_placed.ensures)

pub returns-in_default-string : goal.returns-in_default-string
returns-in_default-string c = puts_nothing _ _ (place_missing _ c.in-Some.is _ c.string.ensures.value c.args.name.now c.args.dir.now c.in_default-string.is)
