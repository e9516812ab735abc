use Rattle.std.proofs.Common.{ap, arith, length}
use Rattle.record.proofs.Short.{dir_short}
use Rattle.record.proofs.place.Place.dir.Goals as goal

pub returns-clause-short : goal.returns-clause-short
returns-clause-short g c = omega (arith, ap length c.parent.ensures, dir_short _ c.path.result.now c.path.ensures.short)
