use Rattle.std.proofs.Common.{arith, refl}
use Rattle.std.proofs.lemmas.Result.{err_from_is_err_and}
use Rattle.entries.proofs.Dirs.{few_records, inside_records}
use Rattle.load.proofs.Walks.{spare_set, bring_held, bring_loaded, walk_refused, bring_next, walking_on, load_on, load_unread, load_refused, load_done, walk_start}
use Rattle.load.proofs.Loads.+bring_load_walk.Goals as goal

pub bring-returns-in-Some : goal.bring-returns-in-Some
bring-returns-in-Some t c = let a = c.args in bring_held a.self.now a.on a.v c.in-Some.row c.in-Some.is c.requires.table

pub bring-returns-in-None : goal.bring-returns-in-None
bring-returns-in-None t c = let a = c.args in bring_loaded a.self.now a.on a.v c.in-None.is _ _ _ c.load.ensures.told

pub load-returns-then-on-c-clause-told : goal.load-returns-then-on-c-clause-told
load-returns-then-on-c-clause-told t c = let a = c.args in record { told = load_on a.self.now a.on a.c (inside_records a.self.now.checked.now a.c c.requires.inside) c.if-on-c.true }

pub load-returns-in_err-entries-clause-told : goal.load-returns-in_err-entries-clause-told
load-returns-in_err-entries-clause-told t c =
    let a = c.args in
    let p = err_from_is_err_and c.from_residual.result c.from_residual.ensures.1 in
    rw (p.1, p.2) (record { told = load_unread a.self.now a.on a.c (inside_records a.self.now.checked.now a.c c.requires.inside) c.if-on-c.false _ c.in_err-entries.ensures.err })

pub load-walk-requires : goal.load-walk-requires
load-walk-requires t c =
    let a = c.args in
    let few = few_records a.self.now.checked.now in (
      omega (arith, spare_set a.on a.c (omega (arith, few, c.requires.inside)) (omega arith) c.if-on-c.false),
      walk_start a.self.now a.on a.c (omega arith) c.requires c.if-on-c.false _ c.in_ok-entries.ensures.ok _ c.as_slice.ensures,
    )

pub load-returns-in_err-merged-clause-told : goal.load-returns-in_err-merged-clause-told
load-returns-in_err-merged-clause-told t c =
    let a = c.args in
    let few = few_records a.self.now.checked.now in
    let p = err_from_is_err_and c.from_residual-in_err-merged.result c.from_residual-in_err-merged.ensures.1 in
    rw (p.1, p.2) (record {
      told = load_refused a.self.now a.on a.c (inside_records a.self.now.checked.now a.c c.requires.inside) c.if-on-c.false _ c.in_ok-entries.ensures.ok (omega arith) (omega (arith, few, c.requires.inside)) _ c.as_slice.ensures c.requires.fresh _ _ c.walk.ensures _ c.in_err-merged.was;
    })

pub load-returns-clause-told : goal.load-returns-clause-told
load-returns-clause-told t c =
    let a = c.args in
    let few = few_records a.self.now.checked.now in
    record {
      told = load_done a.self.now a.on a.c (inside_records a.self.now.checked.now a.c c.requires.inside) c.if-on-c.false _ c.in_ok-entries.ensures.ok (omega arith) (omega (arith, few, c.requires.inside)) _ c.as_slice.ensures c.requires.fresh _ _ c.walk.ensures _ c.in_ok-merged.was (omega arith);
    }

pub walk-returns-in_err-v : goal.walk-returns-in_err-v
walk-returns-in_err-v t c =
    let a = c.args in
    let p = err_from_is_err_and c.from_residual.result c.from_residual.ensures.1 in
    rw (p.1, p.2) (record { told = walk_refused a.self.now a.on a.c a.entries.now a.own _ _ _ c.loop-left.invariant _ (omega arith) _ _ refl _ c.in_err-v.ensures })

pub walk-bring-requires : goal.walk-bring-requires
walk-bring-requires t c =
    let a = c.args in
    (omega arith, bring_next a.self.now a.on a.c a.entries.now a.own _ _ _ c.loop-left.invariant _ (omega arith) _ _ refl _ c.in_ok-v.ensures)

pub walk-loop-left-preserved : goal.walk-loop-left-preserved
walk-loop-left-preserved t c =
    let a = c.args in
    walking_on a.self.now a.on a.c a.entries.now a.own _ _ _ c.loop-left.invariant _ (omega arith) _ _ refl _ c.in_ok-v.ensures _ _ c.bring.ensures _ c.in_ok-far.was _ c.merge_row.ensures
