use Rattle.std.proofs.Common.{arith}
use Rattle.std.proofs.lemmas.Bool.Decides.{nat_tests}
use Rattle.text.proofs.Scans.{prefix_as_std}
use Rattle.compare.proofs.Ways.{over_by}
use Rattle.compare.proofs.covers.Goals as goal

pub returns-then-q-n-eq-SLASH : goal.returns-then-q-n-eq-SLASH
returns-then-q-n-eq-SLASH c =
    let e = prefix_as_std _ c.args.p.now c.args.q.now c.eq.ensures in
    let w = over_by c.args.p.now c.args.q.now in
    grind (arith, nat_tests)

pub returns-else-q-n-eq-SLASH : goal.returns-else-q-n-eq-SLASH
returns-else-q-n-eq-SLASH c = let w = over_by c.args.p.now c.args.q.now in grind (arith, nat_tests)
