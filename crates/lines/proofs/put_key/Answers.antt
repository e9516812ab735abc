use Rattle.std.proofs.Common.{map, ap, refl}
use Rattle.text.specs.Bytes.{bytes}
use Rattle.emit.proofs.Emits.{room_first}
use Rattle.emit.proofs.Outputs.{left_all, left_room, left_step, left_end}
use Rattle.tsconfig.specs.Build.{adjusted}
use Rattle.lines.proofs.Rows.{rows_turn, rows_end, first_target, last_target}
use Rattle.lines.proofs.put_key.Goals as goal

pub put_row-requires : goal.put_row-requires
put_row-requires c = room_first _ _ _ c.requires.room

pub loop-s-init : goal.loop-s-init
loop-s-init c = rw c.into_iter-s-iterator.ensures.into_iter_gives (left_step _ _ _ _ (left_all _ _) _ _ _ refl c.put_row.ensures)

pub put_built-requires-clause-room : goal.put_built-requires-clause-room
put_built-requires-clause-room c =
    let turn = rows_turn (bytes "target") (ap (map (adjusted c.args.dir.now c.args.base.now)) (first_target c.next.ensures.steps c.in-Some.is)) in
    left_room _ _ _ _ c.loop-s.invariant _ _ turn c.requires.room

pub loop-s-preserved : goal.loop-s-preserved
loop-s-preserved c =
    let turn = rows_turn (bytes "target") (ap (map (adjusted c.args.dir.now c.args.base.now)) (first_target c.next.ensures.steps c.in-Some.is)) in
    left_step _ _ _ _ c.loop-s.invariant _ _ _ turn c.put_built.ensures

pub returns : goal.returns
returns c = left_end _ _ _ _ c.loop-s.invariant (rows_end (bytes "target") (ap (map (adjusted c.args.dir.now c.args.base.now)) (last_target c.next.ensures.steps c.in-None.is)))
