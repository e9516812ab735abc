use Rattle.std.proofs.Common.{length, map, ap, arith}
use Rattle.emit.proofs.Outputs.{left_by, left_step, left_end}
use Rattle.record.specs.Lists.{strings_left}
use Rattle.tsconfig.specs.Laid.{laid}
use Rattle.targets.proofs.Lays.{laid_cons}
use Rattle.roots.specs.Roots.{built_place}
use Rattle.roots.proofs.Roots.{place_length}
use Rattle.root_tries.proofs.Others.{others_end, others_same, others_next, others_few, others_near}
use Rattle.root_tries.proofs.put_in_roots.Goals as goal

pub put_read-requires-clause-base : goal.put_read-requires-clause-base
put_read-requires-clause-base c =
    omega (arith, ap length c.build_place-other.ensures, place_length c.args.dir.now c.args.own.now c.in-Some.s.now, c.requires.dir, c.requires.own, c.in-Some.ensures.steps.short)

pub put_read-requires-clause-near : goal.put_read-requires-clause-near
put_read-requires-clause-near c =
    let a = c.args in
    let r = a.record.now in
    others_near a.root.now a.rest.now a.dir.now a.own.now c.requires.dir c.requires.own c.requires.rest r.commands.now r.text.now r.at r.short c.requires.book _ _ _ c.loop-s.invariant.left c.requires.near

pub overflow_add-count : goal.overflow_add-count
overflow_add-count c =
    let a = c.args in
    let r = a.record.now in
    omega (arith, c.loop-s.invariant.counts, others_few a.root.now a.rest.now a.dir.now a.own.now c.requires.dir c.requires.own c.requires.rest r.commands.now r.text.now r.at r.short c.requires.book)

pub loop-s-preserved-then-not-same_path : goal.loop-s-preserved-then-not-same_path
loop-s-preserved-then-not-same_path c =
    let a = c.args in
    let on = ap (map (built_place a.dir.now a.own.now)) c.in-Some.ensures.steps.first in
    let next = others_next a.root.now a.rest.now _ _ _ _ on c.build_place-other.ensures _ c.same_path.ensures c.if-not-same_path.true in
    record {
      left = left_step _ _ _ _ (left_by _ _ _ _ _ (ap laid next) c.loop-s.invariant.left) _ _ _ (laid_cons _ _) c.put_read.ensures;
      counts = omega (arith, c.loop-s.invariant.counts, ap length next);
    }

pub loop-s-preserved : goal.loop-s-preserved
loop-s-preserved c =
    let a = c.args in
    let on = ap (map (built_place a.dir.now a.own.now)) c.in-Some.ensures.steps.first in
    let same = others_same a.root.now a.rest.now _ _ _ _ on c.build_place-other.ensures _ c.same_path.ensures c.if-not-same_path.false in
    record {
      left = left_by _ _ _ _ _ (ap laid same) c.loop-s.invariant.left;
      counts = omega (arith, c.loop-s.invariant.counts, ap length same);
    }

pub returns : goal.returns
unfolding laid
returns c =
    let a = c.args in
    let none = others_end a.root.now a.rest.now (map (built_place a.dir.now a.own.now) (strings_left c.loop-s.s-iterator)) (ap (map (built_place a.dir.now a.own.now)) c.in-None.ensures.steps.first.0) in
    record {
      counts = omega (arith, c.loop-s.invariant.counts, ap length none);
      puts = left_end _ _ _ _ c.loop-s.invariant.left (ap laid none);
    }
