use Rattle.emit.proofs.Outputs.{puts_by}
use Rattle.join.proofs.Buffer.{room_abs, join_abs, room_base, room_sub, join_rel}
use Rattle.join.proofs.join.Goals as goal

pub put_text-requires : goal.put_text-requires
put_text-requires c = room_abs c.args.base.now c.args.sub.now _ c.is_absolute-replaces.ensures c.if-replaces.true _ c.requires

pub returns-then-replaces : goal.returns-then-replaces
returns-then-replaces c = puts_by _ _ _ _ (join_abs c.args.base.now c.args.sub.now _ c.is_absolute-replaces.ensures c.if-replaces.true) c.put_text.ensures

pub put_text-requires-2 : goal.put_text-requires-2
put_text-requires-2 c = room_base c.args.base.now c.args.sub.now _ c.is_absolute-replaces.ensures c.if-replaces.false _ c.requires

pub put_joined-requires : goal.put_joined-requires
put_joined-requires c = room_sub c.args.base.now c.args.sub.now _ c.is_absolute-replaces.ensures c.if-replaces.false _ _ c.put_text-2.ensures _ c.wants_slash.ensures c.requires

pub returns : goal.returns
returns c = join_rel c.args.base.now c.args.sub.now _ c.is_absolute-replaces.ensures c.if-replaces.false _ _ c.put_text-2.ensures _ c.wants_slash.ensures _ c.put_joined.ensures
