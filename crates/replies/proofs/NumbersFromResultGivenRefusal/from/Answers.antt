use Rattle.std.proofs.Common.{rules}
use Rattle.replies.specs.Replies.{returned}
use Rattle.replies.proofs.NumbersFromResultGivenRefusal.from.Goals as goal

pub returns-in-Err : goal.returns-in-Err
unfolding returned
returns-in-Err c = search rules
