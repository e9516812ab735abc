use Rattle.std.proofs.Common.{length, ap, arith}
use Rattle.values.proofs.Lengths.{normalize_length}
use Rattle.targets.proofs.Lays.{laid_one_length}
use Rattle.targets.proofs.put_read_within.Goals as goal

pub put_path-requires-clause-room : goal.put_path-requires-clause-room
put_path-requires-clause-room g c =
    record { room = omega (arith, laid_one_length c.normalize_with.result.now, ap length c.normalize_with.ensures, normalize_length c.args.base.now c.args.spec.now, c.requires.base, c.requires.spec, c.requires.near) }

pub put_path-requires-clause-short : goal.put_path-requires-clause-short
put_path-requires-clause-short g c = omega (arith, ap length c.normalize_with.ensures, normalize_length c.args.base.now c.args.spec.now, c.requires.base, c.requires.spec)
