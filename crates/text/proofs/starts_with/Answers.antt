use Rattle.text.proofs.Scans.{prefix_as_std}
use Rattle.text.proofs.starts_with.Goals as goal

pub returns : goal.returns
returns c = prefix_as_std _ _ _ c.starts_with.ensures.value
