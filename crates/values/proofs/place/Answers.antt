use Rattle.tsconfig.specs.Parsed.{placed}
use Rattle.values.proofs.place.Goals as goal

pub returns-then-has_config_dir : goal.returns-then-has_config_dir
unfolding placed
returns-then-has_config_dir c = rw (← c.has_config_dir.ensures, c.if-has_config_dir.true) c.copy.ensures

pub returns : goal.returns
unfolding placed
returns c = rw (← c.has_config_dir.ensures, c.if-has_config_dir.false) c.normalize_with.ensures
