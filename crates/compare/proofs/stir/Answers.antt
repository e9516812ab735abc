use Rattle.std.proofs.Common.{arith}
use Rattle.compare.specs.Compare.{stir}
use Rattle.compare.proofs.stir.Goals as goal

pub returns : goal.returns
unfolding stir
returns c = omega arith
