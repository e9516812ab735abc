use Rattle.std.proofs.Common.{rules}
use Rattle.std.proofs.lemmas.Result.{err_from_is_err_and}
use Rattle.rows.proofs.Books.{accepted, accepted_paths}
use Rattle.questions.proofs.Replies.{book_refused, book_given}
use Rattle.questions.proofs.open_book.Goals as goal

pub returns-in_err-count : goal.returns-in_err-count
returns-in_err-count c =
    let a = c.args in
    let p = err_from_is_err_and c.from_residual.result c.from_residual.ensures.1 in
    rw (p.1, p.2) (book_refused a.commands.now a.text.now _ c.in_err-count.ensures)

pub invariant_of-result : goal.invariant_of-result
invariant_of-result c = let a = c.args in record { records = accepted a.commands.now a.text.now _ _ (search rules) c.in_ok-count.ensures }

pub invariant_of-result-2 : goal.invariant_of-result-2
invariant_of-result-2 c = let a = c.args in record { listed = accepted_paths a.commands.now a.text.now _ _ (search rules) c.in_ok-count.ensures }

pub returns : goal.returns
returns c = let a = c.args in book_given a.commands.now a.text.now _ _ c.in_ok-count.ensures
