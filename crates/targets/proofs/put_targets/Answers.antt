use Rattle.std.proofs.Common.{length, ap, option_copied, arith}
use lib.ListN.{length-map}
use Rattle.emit.proofs.Outputs.{left_room, left_step, left_end}
use Rattle.record.specs.Lists.{targets_left}
use Rattle.targets.specs.Targets.{target_as}
use Rattle.targets.proofs.Aims.{targets_room, each_next, laid_next, laid_end}
use Rattle.targets.proofs.put_targets.Goals as goal

pub put_target-requires-clause-room : goal.put_target-requires-clause-room
put_target-requires-clause-room g c =
    let a = c.args in
    let f = target_as a.dir.now a.base.now (option_copied a.part) in
    left_room _ _ _ _ c.loop-t.invariant.left _ _ (laid_next f _ _ _ c.in-Some.ensures.steps.first) (targets_room a.dir.now a.base.now _ c.requires.short _ _ c.requires.each c.requires.room)

pub put_target-requires-clause-t : goal.put_target-requires-clause-t
put_target-requires-clause-t g c = (each_next c.in-Some.ensures.steps.first c.loop-t.invariant.each).0

pub loop-t-preserved : goal.loop-t-preserved
loop-t-preserved g c =
    let a = c.args in
    let f = target_as a.dir.now a.base.now (option_copied a.part) in
    record {
      left = left_step _ _ _ _ c.loop-t.invariant.left _ _ _ (laid_next f _ _ _ c.in-Some.ensures.steps.first) c.put_target.ensures;
      each = (each_next c.in-Some.ensures.steps.first c.loop-t.invariant.each).1;
      counts = omega (arith, c.loop-t.invariant.counts, ap length c.in-Some.ensures.steps.first);
    }

pub returns : goal.returns
returns g c =
    let a = c.args in
    let f = target_as a.dir.now a.base.now (option_copied a.part) in
    record {
      counts = omega (arith, c.loop-t.invariant.counts, ap length c.in-None.ensures.steps.first.0, length-map (targets_left a.targets) f);
      puts = left_end _ _ _ _ c.loop-t.invariant.left (laid_end f _ c.in-None.ensures.steps.first.0);
    }
