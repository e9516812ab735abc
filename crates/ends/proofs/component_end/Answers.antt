use mathlib.Core.Path.{ap}
use lib.ListN.{length, length-drop}
use Rattle.ends.proofs.Ends.{ends_le}
use native.Mathlib.Omega.{arith}
use Rattle.ends.proofs.component_end.Goals as goal

pub overflow_add-result : goal.overflow_add-result
overflow_add-result c =
    let s = c.args.s.now in
    omega (arith, ends_le c.from.result.now, ap length c.trim_end.ensures, ap length c.from.ensures, length-drop c.args.a s)
