use Rattle.std.proofs.Common.{Ok, ap, ◌∙◌, ◌+◌, ◌-◌, arith}
use Rattle.std.proofs.lemmas.Result.{err_from_is_err_and}
use Rattle.rows.specs.Checked.{records_in}
use Rattle.owner.proofs.Walks.{walk_never, walk_start, walk_end, walk_refused, walk_found, walk_on}
use Rattle.owner.proofs.find_owner.Goals as goal

pub returns-then-inside_node_modules : goal.returns-then-inside_node_modules
returns-then-inside_node_modules c = let a = c.args in walk_never (records_in a.checked.now.book) a.path.now _ c.inside_node_modules.ensures c.if-inside_node_modules.true

pub loop-init : goal.loop-init
loop-init c = let a = c.args in walk_start (records_in a.checked.now.book) a.path.now _ c.inside_node_modules.ensures c.if-inside_node_modules.false _ (omega (arith, c.max-end.ensures, c.count_components.ensures))

pub returns-in_err-owner : goal.returns-in_err-owner
returns-in_err-owner c =
    let a = c.args in
    let p = err_from_is_err_and c.from_residual.result c.from_residual.ensures.1 in
    rw (p.1, p.2) (walk_refused (records_in a.checked.now.book) a.path.now _ (c.max-end.result - (c.loop.counter + 1)) _ c.loop.invariant (omega arith) _ c.owned_in.ensures _ c.in_err-owner.was)

pub returns-in-Some : goal.returns-in-Some
returns-in-Some c =
    let a = c.args in
    walk_found (records_in a.checked.now.book) a.path.now _ (c.max-end.result - (c.loop.counter + 1)) _ c.loop.invariant (omega arith) _ c.owned_in.ensures _ (c.in_ok-owner.was ∙ ap Ok c.in-Some.is)

pub loop-preserved : goal.loop-preserved
loop-preserved c =
    let a = c.args in
    walk_on (records_in a.checked.now.book) a.path.now _ (c.max-end.result - (c.loop.counter + 1)) _ c.loop.invariant (omega arith) _ c.owned_in.ensures (c.in_ok-owner.was ∙ ap Ok c.in_default.is) _ c.parent-folder.ensures

pub returns : goal.returns
returns c = let a = c.args in walk_end (records_in a.checked.now.book) a.path.now _ _ c.loop.invariant (omega arith)
