use Rattle.std.proofs.Common.{arith}
use Rattle.meeting.proofs.Files.{none_above}
use Rattle.meeting.proofs.has_none_in_short.Goals as goal

pub returns : goal.returns
returns c t = none_above c.args.s.now (λ j l. c.loop-i.invariant.1 j (omega arith))
