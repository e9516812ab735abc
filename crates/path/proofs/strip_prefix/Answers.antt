use mathlib.Core.Path.{ap, ◌∙◌}
use Rattle.std.specs.Prelude.{Some, option_copied}
use Rattle.path.proofs.Strip.{strip_all, strip_nothing, strip_found}
use borrow.Author.Rules.{rules}
use Rattle.path.proofs.strip_prefix.Goals as goal

pub returns-then-is_empty : goal.returns-then-is_empty
returns-then-is_empty c = ap (λ t. Some t) c.upto.ensures ∙ strip_all c.args.p.now c.args.d.now (search rules) _ c.lead_len.ensures _ c.component_end.ensures

pub returns-in_err-left_after : goal.returns-in_err-left_after
returns-in_err-left_after c = ap option_copied c.from_residual.ensures ∙ strip_nothing _ _ _ c.left_after.ensures (search rules) (ap option_copied c.in_err-left_after.was)

pub returns : goal.returns
returns c = strip_found _ _ _ c.left_after.ensures (search rules) _ (ap option_copied c.in_ok-left_after.was) _ c.trim_end.ensures
