use mathlib.Core.Path.{◌∙◌}
use Rattle.matching.proofs.Patterns.{ends_is}
use Rattle.matching.proofs.ends_with.Goals as goal

pub returns : goal.returns
returns c = c.ends_with.ensures.value ∙ ends_is c.args.b c.args.s.now
