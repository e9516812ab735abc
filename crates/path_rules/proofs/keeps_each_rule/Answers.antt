use Rattle.std.proofs.Common.{arith}
use Rattle.std.proofs.lemmas.Bool.Decides.{nat_tests}
use Rattle.path_rules.proofs.Ways.{record_by}
use Rattle.path_rules.proofs.keeps_each_rule.Goals as goal

pub returns-then-lacks : goal.returns-then-lacks
returns-then-lacks c = let e = record_by c.args.s.now c.requires in grind (arith, nat_tests)

pub returns-else-lacks : goal.returns-else-lacks
returns-else-lacks c = let e = record_by c.args.s.now c.requires in grind (arith, nat_tests)
