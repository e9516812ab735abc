use Rattle.std.proofs.Common.{sym}
use Rattle.emit.proofs.Outputs.{puts_by}
use Rattle.lines.proofs.Rows.{room_as}
use Rattle.options.proofs.Numbers.{decimal_low, decimal_high}
use Rattle.options.proofs.put_decimal.Goals as goal

pub put-requires : goal.put-requires
put-requires c = room_as (decimal_low _ c.if-id-lt10.true) c.requires.room

pub put_text-requires : goal.put_text-requires
put_text-requires c = room_as (decimal_high _ c.if-id-lt10.false) c.requires.room

pub returns-then-id-lt10 : goal.returns-then-id-lt10
returns-then-id-lt10 c = puts_by _ _ _ _ (sym (decimal_low _ c.if-id-lt10.true)) c.put.ensures

pub returns-else-id-lt10 : goal.returns-else-id-lt10
returns-else-id-lt10 c = puts_by _ _ _ _ (sym (decimal_high _ c.if-id-lt10.false)) c.put_text.ensures
