use Rattle.std.proofs.Common.{arith}
use Rattle.std.proofs.lemmas.Bool.Decides.{nat_tests}
use Rattle.path_rules.proofs.Ways.{record_plain}
use Rattle.path_rules.proofs.is_plain_path.Goals as goal

pub returns-then-s-ne-SLASH : goal.returns-then-s-ne-SLASH
returns-then-s-ne-SLASH c t = record_plain c.args.s.now c.requires (omega arith) (grind (arith, nat_tests)) (λ q. grind (arith, nat_tests)) (c.has_plain_blocks.ensures t)
