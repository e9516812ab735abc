use lib.ListN.{length}
use Rattle.std.proofs.lemmas.Result.{err_from_is_err_and}
use Rattle.replies.proofs.Replies.{answered_as, answered_refused}
use Rattle.rows.specs.Checked.{records_in}
use Rattle.questions.proofs.Replies.{build_refused, build_accepted, then_refused, then_ready}
use Rattle.questions.proofs.build.Goals as goal

pub returns-in_err-checked : goal.returns-in_err-checked
returns-in_err-checked c =
    let a = c.args in
    let p = err_from_is_err_and c.from_residual.result c.from_residual.ensures.1 in
    rw (p.1, p.2) (answered_refused _ _ _ (build_refused a.commands.now a.text.now a.path.now (length a.out.now) _ c.in_err-checked.ensures))

pub returns-in_err-row : goal.returns-in_err-row
returns-in_err-row c =
    let a = c.args in
    let accepted = build_accepted a.commands.now a.text.now a.path.now (length a.out.now) _ c.in_ok-checked.ensures _ c.is_asked_path.ensures in
    let p = err_from_is_err_and c.from_residual-in_err-row.result c.from_residual-in_err-row.ensures.1 in
    rw (p.1, p.2) (answered_refused _ _ _ (then_refused _ (records_in c.in_ok-checked.checked.book) _ _ accepted _ c.in_err-row.ensures))

pub returns : goal.returns
returns c =
    let a = c.args in
    let accepted = build_accepted a.commands.now a.text.now a.path.now (length a.out.now) _ c.in_ok-checked.ensures _ c.is_asked_path.ensures in
    answered_as _ _ _ _ _ (then_ready _ (records_in c.in_ok-checked.checked.book) _ _ accepted _ c.in_ok-row.ensures) (rw (c.new-built.ensures.book, c.new-built.ensures.row, c.new.ensures.book, c.new.ensures.row) at c.write_listing.ensures)
