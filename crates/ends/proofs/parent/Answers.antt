use mathlib.Core.Path.{◌∙◌}
use Rattle.ends.proofs.parent.Goals as goal

pub returns : goal.returns
returns c = c.upto.ensures ∙ c.parent_len.ensures.bytes
