use Rattle.std.proofs.Common.{arith}
use Rattle.std.proofs.lemmas.Bool.Decides.{nat_tests}
use Rattle.normal.proofs.Names.{ends_next, ends_all}
use Rattle.normal.proofs.ends_in_names.Goals as goal

pub returns-then-is_nameless : goal.returns-then-is_nameless
returns-then-is_nameless c = let e = ends_next c.args.s.now c.loop-i.i (omega arith) in grind (arith, nat_tests)

pub loop-i-preserved : goal.loop-i-preserved
loop-i-preserved c = let e = ends_next c.args.s.now c.loop-i.i (omega arith) in grind (arith, nat_tests)

pub returns : goal.returns
returns c = let e = ends_all c.args.s.now c.loop-i.i (omega arith) in grind (arith, nat_tests)
