use mathlib.Core.Path.{refl, sym, ap, ◌∙◌}
use Rattle.std.specs.Prelude.{option_copied, option_map}
use Rattle.text.proofs.Scans.{same_as_std}
use Rattle.component_walk.specs.Walk.{pieces}
use Rattle.path.proofs.Strip.{left_done, left_short, left_other, left_on, after_not, after_same}
use borrow.Author.Tests.{not-true, not-false}
use Rattle.path.proofs.left_after.Goals as goal

pub returns-then-not-same_lead : goal.returns-then-not-same_lead
returns-then-not-same_lead c = after_not _ _ _ c.same_lead.ensures c.if-not-same_lead.true

pub loop-name-init : goal.loop-name-init
loop-name-init c = let e = after_same _ _ _ c.same_lead.ensures c.if-not-same_lead.false in cc

pub returns-in_err-take_first : goal.returns-in_err-take_first
returns-in_err-take_first c =
    ap (λ o. option_map pieces (option_copied o)) c.from_residual.ensures
    ∙ left_short _ _ _ _ c.in-Some.ensures.steps c.in_err-take_first.ensures.takes ∙ c.loop-name.invariant

pub returns-then-ne : goal.returns-then-ne
returns-then-ne c =
    left_other _ _ _ _ c.in-Some.ensures.steps _ _ c.in_ok-take_first.ensures.takes (sym (same_as_std _ _ _ refl) ∙ not-true _ (sym c.ne.ensures ∙ c.if-ne.true)) ∙ c.loop-name.invariant

pub loop-name-preserved : goal.loop-name-preserved
loop-name-preserved c = left_on _ _ _ _ c.in-Some.ensures.steps _ _ c.in_ok-take_first.ensures.takes (sym (same_as_std _ _ _ refl) ∙ not-false _ (sym c.ne.ensures ∙ c.if-ne.false)) ∙ c.loop-name.invariant

pub returns : goal.returns
returns c = left_done _ _ c.in-None.ensures.steps.0 _ c.as_slice.ensures ∙ c.loop-name.invariant
