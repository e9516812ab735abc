use Rattle.text.proofs.Scans.{same_as_std}
use Rattle.text.proofs.same_text.Goals as goal

pub returns : goal.returns
returns c = same_as_std _ _ _ c.eq.ensures
