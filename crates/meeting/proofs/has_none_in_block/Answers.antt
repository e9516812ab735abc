use Rattle.meeting.proofs.Places.{no_ends, no_whole}
use Rattle.meeting.proofs.has_none_in_block.Goals as goal

pub returns-then-ends-eq0 : goal.returns-then-ends-eq0
returns-then-ends-eq0 c = no_ends c.args.s.now c.args.at _ _ c.places_of.ensures c.places_of-2.ensures

pub returns-else-ends-eq0 : goal.returns-else-ends-eq0
returns-else-ends-eq0 c = no_whole c.args.s.now c.args.at _ _ c.places_of.ensures c.places_of-2.ensures _ _ c.places_of-else-ends-eq0.ensures c.places_of-else-ends-eq0-2.ensures
