use Rattle.tsconfig.specs.Build.{substituted}
use Rattle.values.proofs.substitute.Goals as goal

pub returns-then-has_config_dir : goal.returns-then-has_config_dir
unfolding substituted
returns-then-has_config_dir c = rw (← c.has_config_dir.ensures, c.if-has_config_dir.true) c.in_config_dir.ensures

pub returns : goal.returns
unfolding substituted
returns c = rw (← c.has_config_dir.ensures, c.if-has_config_dir.false) c.copy.ensures
