use Rattle.std.proofs.Common.{map, ap}
use Rattle.text.specs.Bytes.{bytes}
use Rattle.emit.proofs.Outputs.{left_room, left_step, left_end}
use Rattle.lines.specs.Lines.{built_place}
use Rattle.lines.proofs.Rows.{rows_turn, rows_end, first_string, last_string}
use Rattle.lines.proofs.put_root_rows.Goals as goal

pub put_placed-requires-clause-room : goal.put_placed-requires-clause-room
put_placed-requires-clause-room c =
    let turn = rows_turn (bytes "rootDir") (ap (map (built_place c.args.dir.now c.args.own.now)) (first_string c.next.ensures.steps c.in-Some.is)) in
    left_room _ _ _ _ c.loop-s.invariant _ _ turn c.requires.room

pub loop-s-preserved : goal.loop-s-preserved
loop-s-preserved c =
    let turn = rows_turn (bytes "rootDir") (ap (map (built_place c.args.dir.now c.args.own.now)) (first_string c.next.ensures.steps c.in-Some.is)) in
    left_step _ _ _ _ c.loop-s.invariant _ _ _ turn c.put_placed.ensures

pub returns : goal.returns
returns c = left_end _ _ _ _ c.loop-s.invariant (rows_end (bytes "rootDir") (ap (map (built_place c.args.dir.now c.args.own.now)) (last_string c.next.ensures.steps c.in-None.is)))
