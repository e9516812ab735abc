use mathlib.Core.Path.{◌∙◌}
use Rattle.glob.specs.Glob.{glob_of}
use Rattle.glob.proofs.Fate.{sound_yes}
use Rattle.matcher.proofs.matches.Goals as goal

pub returns : goal.returns
returns c = c.is_yes.ensures ∙ sound_yes (glob_of c.args.p.now) c.args.s.now c.glob.result c.glob.ensures
