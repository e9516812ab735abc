use Rattle.std.proofs.lemmas.Result.{err_from_is_err_and}
use Rattle.rows.specs.Checked.{records_in}
use Rattle.owner.proofs.Walks.{record_refused, record_loaded}
use Rattle.owner.proofs.owned_by_record.Goals as goal

pub returns-in_err-project : goal.returns-in_err-project
returns-in_err-project c =
    let a = c.args in
    let p = err_from_is_err_and c.from_residual.result c.from_residual.ensures.1 in
    rw (p.1, p.2) (record_refused (records_in a.checked.now.book) a.path.now a.c _ c.in_err-project.ensures)

pub returns : goal.returns
returns c =
    let a = c.args in
    let o = c.in_ok-project.ensures in
    record_loaded (records_in a.checked.now.book) a.path.now a.c _ _ _ _ o.answer (rw (c.new.ensures.book, c.new.ensures.row) at c.owned_by.ensures)
