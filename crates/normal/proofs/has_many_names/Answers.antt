use Rattle.std.proofs.Common.{arith}
use Rattle.std.proofs.lemmas.Bool.Decides.{nat_tests}
use Rattle.normal.proofs.Names.{behind_next}
use Rattle.normal.proofs.has_many_names.Goals as goal

pub loop-i-preserved : goal.loop-i-preserved
loop-i-preserved c = let e = behind_next c.args.s.now c.loop-i.i (omega arith) (omega arith) in (omega arith, grind (arith, nat_tests))
