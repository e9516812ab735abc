use Rattle.std.proofs.Common.{arith}
use Rattle.std.proofs.lemmas.Bool.Decides.{nat_tests}
use Rattle.patterns.specs.Patterns.{after_config_dir, pattern_rule}
use Rattle.patterns.proofs.is_pattern.Goals as goal

pub returns : goal.returns
unfolding pattern_rule after_config_dir
returns c = grind (arith, nat_tests)
