use Rattle.std.proofs.Common.{arith}
use Rattle.glob.proofs.Fronts.{ahead_start, byte_short, byte_other, byte_on, end_yes, end_no}
use Rattle.glob.proofs.reach.Goals as goal

pub loop-i-init : goal.loop-i-init
loop-i-init c = ahead_start _ _

pub returns-then-i-s : goal.returns-then-i-s
returns-then-i-s c = byte_short _ _ _ c.loop-i.invariant c.loop-i-test.true c.if-c-eq-STAR.false c.if-i-s.true

pub returns-then-not-takes : goal.returns-then-not-takes
returns-then-not-takes c = byte_other _ _ _ c.loop-i.invariant c.loop-i-test.true c.if-c-eq-STAR.false c.if-i-s.false _ c.takes.ensures c.if-not-takes.true

pub loop-i-preserved : goal.loop-i-preserved
loop-i-preserved c = byte_on _ _ _ c.loop-i.invariant c.loop-i-test.true c.if-c-eq-STAR.false c.if-i-s.false _ c.takes.ensures c.if-not-takes.false

pub returns-then-p-s : goal.returns-then-p-s
returns-then-p-s c = let a = c.loop-i.invariant in end_yes _ _ _ a c.loop-i-test.false (omega (arith, a.pattern))

pub returns-else-p-s : goal.returns-else-p-s
returns-else-p-s c = let a = c.loop-i.invariant in end_no _ _ _ a c.loop-i-test.false (omega (arith, a.pattern))
