use mathlib.Core.Path.{sym, ap, ◌∙◌}
use Rattle.std.specs.Prelude.{Ok}
use Rattle.std.proofs.lemmas.Result.{err_from_is_err_and}
use Rattle.rows.specs.Checked.{records_in}
use Rattle.replies.specs.Replies.{returned}
use Rattle.questions.proofs.Replies.{owner_refused, owner_not, owner_refuses, owner_nobody, owner_found}
use Rattle.questions.proofs.owner.Goals as goal

pub returns-in_err-checked : goal.returns-in_err-checked
returns-in_err-checked c =
    let a = c.args in
    let p = err_from_is_err_and c.from_residual.result c.from_residual.ensures.1 in
    rw (p.1, p.2) (sym (ap returned (owner_refused a.commands.now a.text.now a.path.now _ c.in_err-checked.ensures)))

pub returns-then-not-is_asked_path : goal.returns-then-not-is_asked_path
returns-then-not-is_asked_path c =
    let a = c.args in
    sym (ap returned (owner_not a.commands.now a.text.now a.path.now (records_in c.in_ok-checked.checked.book) c.in_ok-checked.ensures _ c.is_asked_path.ensures c.if-not-is_asked_path.true))

pub returns-in_err-owner : goal.returns-in_err-owner
returns-in_err-owner c =
    let a = c.args in
    let p = err_from_is_err_and c.from_residual-in_err-owner.result c.from_residual-in_err-owner.ensures.1 in
    rw (p.1, p.2) (sym (ap returned (owner_refuses a.commands.now a.text.now a.path.now (records_in c.in_ok-checked.checked.book) c.in_ok-checked.ensures _ c.is_asked_path.ensures c.if-not-is_asked_path.false
    _ c.find_owner.ensures _ c.in_err-owner.was)))

pub returns-in-Some : goal.returns-in-Some
returns-in-Some c =
    let a = c.args in
    owner_found a.commands.now a.text.now a.path.now (records_in c.in_ok-checked.checked.book) c.in_ok-checked.ensures _ c.is_asked_path.ensures c.if-not-is_asked_path.false
    _ c.find_owner.ensures _ (c.in_ok-owner.was ∙ ap Ok c.in-Some.is) _ c.give.ensures

pub returns-in-None : goal.returns-in-None
returns-in-None c =
    let a = c.args in
    owner_nobody a.commands.now a.text.now a.path.now (records_in c.in_ok-checked.checked.book) c.in_ok-checked.ensures _ c.is_asked_path.ensures c.if-not-is_asked_path.false
    _ c.find_owner.ensures (c.in_ok-owner.was ∙ ap Ok c.in-None.is) _ c.give-in-None.ensures
