use Rattle.tsconfig.specs.Build.{adjusted}
use Rattle.values.proofs.adjust.Goals as goal

pub returns-then-has_config_dir : goal.returns-then-has_config_dir
unfolding adjusted
returns-then-has_config_dir c = rw (← c.has_config_dir.ensures, c.if-has_config_dir.true) c.in_config_dir.ensures

pub returns : goal.returns
unfolding adjusted
returns c = rw (← c.has_config_dir.ensures, c.if-has_config_dir.false) c.normalize_with.ensures
