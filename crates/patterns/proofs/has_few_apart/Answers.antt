use Rattle.std.proofs.Common.{arith}
use Rattle.std.proofs.lemmas.Bool.Decides.{nat_tests}
use Rattle.patterns.proofs.Stars.{apart_next, apart_end}
use Rattle.patterns.proofs.has_few_apart.Goals as goal

pub returns-then-is_crowded : goal.returns-then-is_crowded
returns-then-is_crowded c = let e = apart_next c.args.s.now c.loop-i.i (omega arith) (omega arith) in grind (arith, nat_tests)

pub loop-i-preserved : goal.loop-i-preserved
loop-i-preserved c = let e = apart_next c.args.s.now c.loop-i.i (omega arith) (omega arith) in (omega arith, grind (arith, nat_tests))

pub returns : goal.returns
returns c = let e = apart_end c.args.s.now c.loop-i.i (omega arith) in grind (arith, nat_tests)
