use Rattle.std.proofs.Common.{arith}
use Rattle.record.proofs.Short.{any_short}
use Rattle.record.proofs.place.Place+ANY.new.Goals as goal

pub invariant_of-result : goal.invariant_of-result
invariant_of-result c = record { short = any_short _ _ (omega arith) _ }
