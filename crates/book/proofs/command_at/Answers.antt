use lib.ListN.{length-drop}
use borrow.Author.Tests.{eqb-true, eqb-false}
use Rattle.std.specs.Prelude.{Err}
use Rattle.book.specs.Command.{operands}
use mathlib.Core.Path.{◌≡◌, refl, ap, sym, ◌∙◌}
use borrow.Author.Rules.{rules}
use Rattle.book.proofs.Steps.{step_end, step_unknown, step_cut, step_command, width_some, width_none, ok_told, err_told}
use native.Mathlib.Omega.{arith}
use Rattle.book.proofs.command_at.Goals as goal

pub returns-then-commands-at : goal.returns-then-commands-at
returns-then-commands-at c = step_end _ _ 0 c.if-commands-at.true

pub returns-then-commands-at-le-SPAN : goal.returns-then-commands-at-le-SPAN
returns-then-commands-at-le-SPAN c = step_cut _ _ 4 c.if-commands-at.false (sym (eqb-true _ 4 (sym c.is_spanned.ensures ∙ c.if-is_spanned.true))) (λ h. absurd (omega (arith, h))) c.if-commands-at-le-SPAN.true

pub read_span-requires : goal.read_span-requires
read_span-requires c = simp (c.from.ensures, length-drop) c.if-commands-at-le-SPAN.false

pub returns-then-is_spanned : goal.returns-then-is_spanned
returns-then-is_spanned c = step_command _ _ 4 _ c.if-commands-at.false (sym (eqb-true _ 4 (sym c.is_spanned.ensures ∙ c.if-is_spanned.true))) (λ h. absurd (omega (arith, h))) c.if-commands-at-le-SPAN.false (c.read_span.ensures ∙ ap (operands _) c.from.ensures)

pub width-requires : goal.width-requires
width-requires c = sym c.is_spanned.ensures ∙ c.if-is_spanned.false

pub returns-in_err-w : goal.returns-in_err-w
returns-in_err-w c =
    let n = err_told _ _ _ c.ok_or.ensures.value c.in_err-w.was in
    let r : c.from_residual.result ≡ Err c.in_err-w.field-0.0 = search rules in
    r ∙ ap Err n.1 ∙ step_unknown _ _ _ c.if-commands-at.false refl (eqb-true _ 9 (width_none _ (sym c.width.ensures ∙ n.0)))

pub returns-then-commands-at-2 : goal.returns-then-commands-at-2
returns-then-commands-at-2 c = step_cut _ _ _ c.if-commands-at.false (width_some _ (sym c.width.ensures ∙ ok_told _ _ _ c.ok_or.ensures.value c.in_ok-w.was)).0 (width_some _ (sym c.width.ensures ∙ ok_told _ _ _ c.ok_or.ensures.value c.in_ok-w.was)).1 c.if-commands-at-2.true

pub read-requires : goal.read-requires
read-requires c = (simp (c.from-2.ensures, length-drop) c.if-commands-at-2.false, λ h. eqb-false _ 4 (sym c.is_spanned.ensures ∙ c.if-is_spanned.false) (sym (width_some _ (sym c.width.ensures ∙ ok_told _ _ _ c.ok_or.ensures.value c.in_ok-w.was)).0 ∙ h))

pub returns : goal.returns
returns c = step_command _ _ _ _ c.if-commands-at.false (width_some _ (sym c.width.ensures ∙ ok_told _ _ _ c.ok_or.ensures.value c.in_ok-w.was)).0 (width_some _ (sym c.width.ensures ∙ ok_told _ _ _ c.ok_or.ensures.value c.in_ok-w.was)).1 c.if-commands-at-2.false (c.read.ensures ∙ ap (operands _) c.from-2.ensures)
