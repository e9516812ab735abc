use mathlib.Core.Path.{◌∙◌}
use Rattle.text.proofs.Scans.{same_as_std}
use Rattle.path.proofs.Under.{same_lead}
use Rattle.path.proofs.same_lead.Goals as goal

pub returns : goal.returns
returns c = same_as_std _ _ _ c.eq.ensures ∙ same_lead _ _ _ _ c.lead_len.ensures c.lead_len-2.ensures _ _ c.upto.ensures c.upto-2.ensures
