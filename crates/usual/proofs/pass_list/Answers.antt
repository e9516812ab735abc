use mathlib.Core.Path.{sym}
use native.Mathlib.Omega.{arith}
use Rattle.usual.proofs.Passing.{joined, once_taken, lone_on, small_width}
use Rattle.usual.proofs.pass_list.Goals as goal

pub pass_once-next-requires : goal.pass_once-next-requires
pass_once-next-requires c = omega (arith, c.from.ensures, small_width c.requires.alone.0)

pub overflow_add-op : goal.overflow_add-op
overflow_add-op c = omega (arith, small_width c.requires.alone.0)

pub returns-then-next-at : goal.returns-then-next-at
returns-then-next-at c =
    let a = c.args in
    let o = c.pass_once-next.ensures in
    rw c.if-next-at.true at
    (once_taken a.part.now a.text.now.bytes.now a.tally.now.counts a.tally.now.last a.at _ _ o.counts_after _ _ o.last_after _ _ o.value
    (lone_on a.part.now a.text.now.bytes.now a.tally.now.counts a.tally.now.last a.at a.op c.requires.begun c.requires.at_in_bounds.0 (sym c.requires.at_in_bounds.1) c.requires.alone.0 c.requires.alone.1 c.from.result c.from.ensures))

pub returns : goal.returns
returns c =
    let a = c.args in
    let o = c.pass_once-next.ensures in
    joined
    (once_taken a.part.now a.text.now.bytes.now a.tally.now.counts a.tally.now.last a.at _ _ o.counts_after _ _ o.last_after _ _ o.value
    (lone_on a.part.now a.text.now.bytes.now a.tally.now.counts a.tally.now.last a.at a.op c.requires.begun c.requires.at_in_bounds.0 (sym c.requires.at_in_bounds.1) c.requires.alone.0 c.requires.alone.1 c.from.result c.from.ensures))
    c.pass_strings.ensures
