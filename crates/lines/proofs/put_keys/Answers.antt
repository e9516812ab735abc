use Rattle.emit.proofs.Outputs.{left_room, left_step, left_end}
use Rattle.std.proofs.Common.{map, ap}
use Rattle.lines.specs.Lines.{built_key}
use Rattle.lines.proofs.Rows.{keys_turn, keys_end, first_key, last_key}
use Rattle.lines.proofs.put_keys.Goals as goal

pub put_key-requires-clause-room : goal.put_key-requires-clause-room
put_key-requires-clause-room c =
    let turn = keys_turn c.args.dir.now c.args.base.now (first_key c.next.ensures.steps c.in-Some.is) in
    left_room _ _ _ _ c.loop-key.invariant _ _ turn c.requires.room

pub loop-key-preserved : goal.loop-key-preserved
loop-key-preserved c =
    let turn = keys_turn c.args.dir.now c.args.base.now (first_key c.next.ensures.steps c.in-Some.is) in
    left_step _ _ _ _ c.loop-key.invariant _ _ _ turn c.put_key.ensures

pub returns : goal.returns
returns c = left_end _ _ _ _ c.loop-key.invariant (keys_end _ (ap (map (built_key c.args.dir.now c.args.base.now)) (last_key c.next.ensures.steps c.in-None.is)))
