use mathlib.Core.Bool.{true}
use mathlib.Core.Path.{refl}
use Rattle.meeting.proofs.Rows.{meet_short, meet_rest}
use Rattle.meeting.proofs.do_meet.Goals as goal

pub returns-then-a-b : goal.returns-then-a-b
returns-then-a-b c = meet_short true c.args.a.now c.args.b.now _ refl c.if-a-b.true c.covers.ensures

pub returns-else-a-b : goal.returns-else-a-b
returns-else-a-b c = meet_rest c.args.a.now c.args.b.now _ c.if-a-b.false c.covers-else-a-b.ensures
