use Rattle.std.proofs.Common.{arith}
use Rattle.records.specs.Joined.{path_of}
use Rattle.records.proofs.Paths.{find_start, find_none, find_here, find_on}
use Rattle.records.proofs.PathTable.find_joined.Goals as goal

pub loop-look-init : goal.loop-look-init
loop-look-init c = let t = c.args.self.now in record { within = omega arith; left = find_start t.text.now t.rows.now (path_of c.args.p.now) }

pub returns-then-self-c : goal.returns-then-self-c
returns-then-self-c c = let i = c.loop-look.invariant in find_none _ _ (path_of c.args.p.now) _ _ c.next_joined-c.ensures i.left c.if-self-c.true

pub returns-then-is : goal.returns-then-is
returns-then-is c = let i = c.loop-look.invariant in find_here _ _ (path_of c.args.p.now) _ _ c.next_joined-c.ensures i.left c.if-self-c.false _ c.path-q.ensures _ c.is.ensures c.if-is.true

pub loop-look-preserved : goal.loop-look-preserved
loop-look-preserved c =
    let i = c.loop-look.invariant in
    record {
      within = omega arith;
      left = find_on _ _ (path_of c.args.p.now) _ _ c.next_joined-c.ensures i.left c.if-self-c.false _ c.path-q.ensures _ c.is.ensures c.if-is.false;
    }
