use Rattle.std.proofs.Common.{sym}
use Rattle.emit.proofs.Outputs.{puts_by}
use Rattle.lines.proofs.Rows.{puts_nothing, room_as}
use Rattle.fields.proofs.Ways.{url_none, url_missing, url_got}
use Rattle.fields.proofs.put_url.Goals as goal

pub returns-in_default : goal.returns-in_default
returns-in_default c = puts_nothing _ _ (url_none _ c.in_default.is _)

pub put_built-requires-clause-room : goal.put_built-requires-clause-room
put_built-requires-clause-room c = room_as (sym (url_got _ c.in-Some.is c.args.dir.now c.string.ensures.value c.in-Some-string.is)) c.requires.room

pub returns-in-Some-string : goal.returns-in-Some-string
returns-in-Some-string c = puts_by _ _ _ _ (url_got _ c.in-Some.is c.args.dir.now c.string.ensures.value c.in-Some-string.is) c.put_built.ensures

pub returns-in_default-string : goal.returns-in_default-string
returns-in_default-string c = puts_nothing _ _ (url_missing _ c.in-Some.is c.args.dir.now c.string.ensures.value c.in_default-string.is)
