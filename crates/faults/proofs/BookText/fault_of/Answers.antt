use mathlib.Core.Path.{◌≡◌, refl, sym, ◌∙◌}
use borrow.Author.Rules.{rules}
use Rattle.std.specs.Prelude.{Err}
use Rattle.book.proofs.Steps.{err_told}
use Rattle.faults.proofs.Keeps.{slotted_none, order_range, begin_not_again, many_any}
use Rattle.faults.proofs.Faults.{fault_order, fault_string, fault_many, fault_none}
use Rattle.faults.proofs.BookText.fault_of.Goals as goal

pub returns-in_err-k-clause-fault : goal.returns-in_err-k-clause-fault
returns-in_err-k-clause-fault c =
    let r : c.from_residual.result ≡ Err c.in_err-k.field-0.0 = search rules in
    let e = err_told _ _ _ c.ok_or.ensures.value c.in_err-k.was in
    λ n paths. rw (r, e.1) (fault_order _ _ _ _ _ _ _ _ (order_range _ _ _ (slotted_none c.args.c (sym c.slot_of.ensures ∙ e.0))) refl)

pub returns-then-not-in_order-clause-fault : goal.returns-then-not-in_order-clause-fault
returns-then-not-in_order-clause-fault c = λ n paths. fault_order _ _ _ _ _ _ _ _ c.in_order.ensures c.if-not-in_order.true

pub returns-then-not-is_good-clause-fault : goal.returns-then-not-is_good-clause-fault
returns-then-not-is_good-clause-fault c = λ n paths. fault_string _ _ _ _ _ _ _ _ c.in_order.ensures c.if-not-in_order.false _ c.is_good.ensures c.if-not-is_good.true

pub is_too_many-requires : goal.is_too_many-requires
is_too_many-requires c = (c.requires.byte, (search rules, begin_not_again _ _ c.args.c c.requires.begun (sym c.in_order.ensures ∙ c.if-not-in_order.false)))

pub returns-then-is_too_many-clause-fault : goal.returns-then-is_too_many-clause-fault
returns-then-is_too_many-clause-fault c = λ n paths. fault_many _ _ _ _ _ _ _ _ c.in_order.ensures c.if-not-in_order.false _ c.is_good.ensures c.if-not-is_good.false _ (c.is_too_many.ensures n ∙ many_any _ _ _ _ _) c.if-is_too_many.true

pub returns-clause-fault : goal.returns-clause-fault
returns-clause-fault c =
    λ n paths. fault_none _ _ _ _ _ _ _ _ c.in_order.ensures c.if-not-in_order.false _ c.is_good.ensures c.if-not-is_good.false _ (c.is_too_many.ensures n ∙ many_any _ _ _ _ _) c.if-is_too_many.false
    (begin_not_again _ _ c.args.c c.requires.begun (sym c.in_order.ensures ∙ c.if-not-in_order.false)) refl
