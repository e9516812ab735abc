use Rattle.std.proofs.Common.{arith}
use Rattle.targets.proofs.Aims.{target_length, filled_as, bare_as}
use Rattle.targets.proofs.put_target_within.Goals as goal

pub put_filled-requires : goal.put_filled-requires
put_filled-requires g c =
    let e = filled_as c.args.dir.now c.args.base.now c.args.t.now _ c.adjust-path.ensures c.args.part c.in-Some.is in
    rw (← e) (record { room = c.requires.room; short = omega (arith, target_length c.args.dir.now c.args.base.now _ c.requires.short c.args.t.now c.requires.t) })

pub put_path-requires : goal.put_path-requires
put_path-requires g c =
    let e = bare_as c.args.dir.now c.args.base.now c.args.t.now _ c.adjust-path.ensures c.args.part c.in-None.is in
    rw (← e) (record { room = c.requires.room; short = omega (arith, target_length c.args.dir.now c.args.base.now _ c.requires.short c.args.t.now c.requires.t) })

pub returns-in-Some : goal.returns-in-Some
returns-in-Some g c = rw (filled_as c.args.dir.now c.args.base.now c.args.t.now _ c.adjust-path.ensures c.args.part c.in-Some.is) c.put_filled.ensures

pub returns-in-None : goal.returns-in-None
returns-in-None g c = rw (bare_as c.args.dir.now c.args.base.now c.args.t.now _ c.adjust-path.ensures c.args.part c.in-None.is) c.put_path.ensures
