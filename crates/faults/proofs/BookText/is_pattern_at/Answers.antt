use mathlib.Core.Path.{ap, ◌∙◌}
use Rattle.patterns.proofs.Ways.{tame_pattern}
use Rattle.patterns.specs.Patterns.{pattern_rule}
use Rattle.faults.proofs.BookText.is_pattern_at.Goals as goal

pub returns-then-is_tame_at : goal.returns-then-is_tame_at
returns-then-is_tame_at c = c.has_stars_apart_at.ensures ∙ tame_pattern _ (c.is_tame_at.ensures c.if-is_tame_at.true)

pub returns-else-is_tame_at : goal.returns-else-is_tame_at
returns-else-is_tame_at c = c.is_pattern.ensures ∙ ap pattern_rule c.piece.ensures
