use mathlib.Core.Path.{sym, ap, ◌∙◌}
use mir.Val.{bool_byte}
use Rattle.components.proofs.Components.{lead_rooted, lead_other}
use Rattle.components.proofs.lead_len.Goals.{then-is_absolute, else-is_absolute}
use Rattle.components.proofs.lead_len.Goals as goal

pub returns : goal.returns
returns c = elim c.if-is_absolute.branch [
  | then-is_absolute w ↦ c.from.ensures ∙ ap bool_byte (w.from-is ∙ w.if-is_absolute.true) ∙ sym (lead_rooted _ (sym w.if-is_absolute.true ∙ c.is_absolute.ensures))
  | else-is_absolute w ↦ c.from.ensures ∙ ap bool_byte w.from-is ∙ sym (lead_other _ _ (sym w.if-is_absolute.false ∙ c.is_absolute.ensures) w.leads_dot.ensures)
]
