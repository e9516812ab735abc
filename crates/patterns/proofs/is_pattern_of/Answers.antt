use Rattle.std.proofs.Common.{◌∙◌}
use Rattle.patterns.proofs.Ways.{tame_pattern}
use Rattle.patterns.proofs.is_pattern_of.Goals as goal

pub returns-then-tame : goal.returns-then-tame
returns-then-tame c = c.has_stars_apart.ensures ∙ tame_pattern c.args.s.now (c.requires c.if-tame.true)
