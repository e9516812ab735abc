use Rattle.std.proofs.Common.{arith}
use Rattle.std.proofs.lemmas.Bool.Decides.{nat_tests}
use Rattle.compare.specs.Compare.{digest_of}
use Rattle.compare.proofs.digest.Goals as goal

pub returns : goal.returns
unfolding digest_of
returns c = grind (arith, nat_tests)
