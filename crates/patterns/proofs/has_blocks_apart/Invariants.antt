use Rattle.std.proofs.Common.{◌≡◌, take}
use Rattle.patterns.specs.Scan.{stars_apart}
use Rattle.patterns.proofs.Blocks.{apart_from}
use Rattle.patterns.proofs.has_blocks_apart.Given as goal

abbrev pub invariant-loop-i : goal.invariant-loop-i
invariant-loop-i l = stars_apart (take l.len l.s) ≡ apart_from l.s l.len l.i
