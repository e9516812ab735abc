use Rattle.text.specs.Bytes.{bytes}
use Rattle.emit.proofs.Outputs.{left_room, left_step, left_end}
use Rattle.lines.proofs.Rows.{rows_turn, rows_end, first_string, last_string}
use Rattle.lines.proofs.put_references.Goals as goal

pub put_row-requires : goal.put_row-requires
put_row-requires g c =
    let turn = rows_turn (bytes "reference") ((first_string c.next.ensures.steps c.in-Some.is)) in
    left_room _ _ _ _ c.loop-s.invariant _ _ turn c.requires

pub loop-s-preserved : goal.loop-s-preserved
loop-s-preserved g c =
    let turn = rows_turn (bytes "reference") ((first_string c.next.ensures.steps c.in-Some.is)) in
    left_step _ _ _ _ c.loop-s.invariant _ _ _ turn c.put_row.ensures

pub returns : goal.returns
returns g c = left_end _ _ _ _ c.loop-s.invariant (rows_end (bytes "reference") ((last_string c.next.ensures.steps c.in-None.is)))
