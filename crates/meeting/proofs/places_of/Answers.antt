use Rattle.meeting.proofs.Places.{place_set}
use Rattle.meeting.proofs.places_of.Goals as goal

pub returns : goal.returns
returns c = place_set c.args.s.now c.args.at c.args.x c.requires
