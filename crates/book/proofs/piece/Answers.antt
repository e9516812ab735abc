use mathlib.Core.Path.{ap, ◌∙◌}
use lib.ListN.{take}
use Rattle.book.proofs.piece.Goals as goal

pub returns : goal.returns
returns c = c.upto.ensures ∙ ap (take c.args.len) c.from.ensures
