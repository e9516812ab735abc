use mathlib.Core.Path.{sym, ap, ◌∙◌}
use native.Mathlib.Omega.{arith}
use lib.ListN.{length}
use Rattle.std.specs.Prelude.{option_copied}
use Rattle.std.proofs.lemmas.Result.{err_from_is_err_and}
use Rattle.replies.proofs.Replies.{answered_as, answered_refused}
use Rattle.replies.specs.Replies.{listed}
use Rattle.paths_reply.specs.Paths.{paths_by}
use Rattle.tsconfig.specs.Claims.{Site}
use Rattle.sites.proofs.Laws.{site_is}
use Rattle.rows.specs.Checked.{records_in}
use Rattle.questions.proofs.Replies.{paths_refused, paths_accepted, then_refused, then_ready, ready_asked, specifier_short, directory_short}
use Rattle.questions.proofs.paths.Goals as goal

pub returns-in_err-checked : goal.returns-in_err-checked
returns-in_err-checked c =
    let a = c.args in
    let p = err_from_is_err_and c.from_residual.result c.from_residual.ensures.1 in
    rw (p.1, p.2) (answered_refused _ _ _ (paths_refused a.commands.now a.text.now a.path.now a.specifier.now (length a.out.now) (option_copied a.directory) _ c.in_err-checked.ensures))

pub returns-in_err-row : goal.returns-in_err-row
returns-in_err-row c =
    let a = c.args in
    let accepted = paths_accepted a.commands.now a.text.now a.path.now a.specifier.now (length a.out.now) (option_copied a.directory) _ c.in_ok-checked.ensures _ c.is_asked.ensures in
    let p = err_from_is_err_and c.from_residual-in_err-row.result c.from_residual-in_err-row.ensures.1 in
    rw (p.1, p.2) (answered_refused _ _ _ (then_refused _ (records_in c.in_ok-checked.checked.book) _ _ accepted _ c.in_err-row.ensures))

pub write_paths-requires-clause-asks : goal.write_paths-requires-clause-asks
write_paths-requires-clause-asks c =
    let a = c.args in
    let ready = c.in_ok-row.ensures in
    let asked = sym c.is_asked.ensures ∙ ready_asked _ (records_in c.in_ok-checked.checked.book) a.path.now _ ready in
    record { spec_short = specifier_short a.path.now a.specifier.now (option_copied a.directory) asked; near = omega arith }

pub write_paths-requires-clause-directory : goal.write_paths-requires-clause-directory
write_paths-requires-clause-directory c =
    let a = c.args in
    let asked = sym c.is_asked.ensures ∙ ready_asked _ (records_in c.in_ok-checked.checked.book) a.path.now _ c.in_ok-row.ensures in
    directory_short a.path.now a.specifier.now a.directory asked

pub returns : goal.returns
returns c =
    let a = c.args in
    let accepted = paths_accepted a.commands.now a.text.now a.path.now a.specifier.now (length a.out.now) (option_copied a.directory) _ c.in_ok-checked.ensures _ c.is_asked.ensures in
    let b = c.new-built in
    let same = site_is b.result.config _ _ (b.ensures.book ∙ c.new.ensures.book) (b.ensures.row ∙ c.new.ensures.row) in
    answered_as _ _ _ _ _
    (then_ready _ (records_in c.in_ok-checked.checked.book) _ _ accepted _ c.in_ok-row.ensures
    ∙ sym (ap (λ (s : Site). listed (length a.out.now) (paths_by (option_copied a.directory) a.specifier.now s.config)) same))
    c.write_paths.ensures
