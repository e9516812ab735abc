use mathlib.Core.Path.{◌∙◌}
use Rattle.ends.proofs.Ends.{start_drop}
use Rattle.ends.proofs.last_piece.Goals as goal

pub returns : goal.returns
returns c = c.from.ensures ∙ start_drop _ _ c.last_start.ensures
