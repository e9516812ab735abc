use Rattle.std.proofs.Common.{arith}
use Rattle.rows.proofs.Merge.{merge_start, merge_step, merge_end, merge_whole}
use Rattle.merge.proofs.merge_row.Goals as goal

pub loop-i-init : goal.loop-i-init
loop-i-init c = merge_start c.args.row.now c.args.far.now

pub loop-i-preserved : goal.loop-i-preserved
loop-i-preserved c = merge_step _ _ _ _ _ c.loop-i.invariant (omega arith) (omega arith) c.pick.ensures

pub returns : goal.returns
returns c =
    let a = c.args in
    merge_whole a.row.now a.far.now _ _ (omega arith) (omega arith) (merge_end a.row.now a.far.now _ c.loop-i.i c.loop-i.invariant (omega arith) (omega arith)) c.pick_base-base.ensures
