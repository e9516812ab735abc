use Rattle.std.proofs.Common.{map, ap}
use Rattle.emit.proofs.Outputs.{left_room, left_step, left_end}
use Rattle.tsconfig.specs.Build.{adjusted}
use Rattle.lines.proofs.Rows.{rows_turn, rows_end, first_string, last_string}
use Rattle.lines.proofs.put_strings.Goals as goal

pub put_built-requires-clause-room : goal.put_built-requires-clause-room
put_built-requires-clause-room c =
    let turn = rows_turn c.args.name.now (ap (map (adjusted c.args.dir.now c.args.dir.now)) (first_string c.next.ensures.steps c.in-Some.is)) in
    left_room _ _ _ _ c.loop-s.invariant _ _ turn c.requires.room

pub loop-s-preserved : goal.loop-s-preserved
loop-s-preserved c =
    let turn = rows_turn c.args.name.now (ap (map (adjusted c.args.dir.now c.args.dir.now)) (first_string c.next.ensures.steps c.in-Some.is)) in
    left_step _ _ _ _ c.loop-s.invariant _ _ _ turn c.put_built.ensures

pub returns : goal.returns
returns c = left_end _ _ _ _ c.loop-s.invariant (rows_end c.args.name.now (ap (map (adjusted c.args.dir.now c.args.dir.now)) (last_string c.next.ensures.steps c.in-None.is)))
