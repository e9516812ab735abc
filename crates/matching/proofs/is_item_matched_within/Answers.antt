use Prim.Native.Nat.{◌+◌, ◌≤◌}
use mathlib.Core.Path.{ap}
use native.Mathlib.Omega.{arith}
use lib.ListN.{length}
use Rattle.matching.proofs.Patterns.{built_length}
use Rattle.matching.proofs.is_item_matched_within.Goals as goal

pub is_matched-requires-clause-room : goal.is_matched-requires-clause-room
is_matched-requires-clause-room g c =
    let z : length c.adjust.result.now + 5 ≤ g.row.N = omega (arith, c.requires.room, ap length c.adjust.ensures, built_length c.args.dir.now c.args.s.now) in
    z
