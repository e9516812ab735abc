use Rattle.std.proofs.Common.{arith}
use Rattle.std.proofs.lemmas.Bool.Decides.{nat_tests}
use Rattle.patterns.specs.Patterns.{pattern_text}
use Rattle.patterns.proofs.Stars.{apart_whole}
use Rattle.patterns.proofs.is_pattern_text.Goals as goal

pub returns-then-lacks_brackets : goal.returns-then-lacks_brackets
unfolding pattern_text
returns-then-lacks_brackets c = let e = apart_whole c.args.s.now in grind (arith, nat_tests)

pub returns-else-lacks_brackets : goal.returns-else-lacks_brackets
unfolding pattern_text
returns-else-lacks_brackets c = grind (arith, nat_tests)
