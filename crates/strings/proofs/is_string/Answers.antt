use Rattle.std.proofs.Common.{arith}
use Rattle.std.proofs.lemmas.Bool.Decides.{nat_tests}
use Rattle.strings.specs.Strings.{string_rule}
use Rattle.strings.proofs.is_string.Goals as goal

pub returns-then-s-le-LONGEST : goal.returns-then-s-le-LONGEST
unfolding string_rule
returns-then-s-le-LONGEST c = grind (arith, nat_tests)

pub returns-else-s-le-LONGEST : goal.returns-else-s-le-LONGEST
unfolding string_rule
returns-else-s-le-LONGEST c = grind (arith, nat_tests)
