use mathlib.Core.Path.{refl, sym, ◌∙◌}
use mathlib.Core.Bool.{true≢false}
use Rattle.book.specs.State.{has}
use Rattle.faults.proofs.Keeps.{slotted_some, slot_small, order_closed, order_again, order_on}
use Rattle.faults.proofs.Tally.in_order.Goals.{then-is_opened, else-is_opened}
use Rattle.faults.proofs.Tally.in_order.Goals as goal

pub bounds-self-k : goal.bounds-self-k
bounds-self-k c = slot_small c.args.c c.requires.0 c.requires.1

pub returns-then-is_fresh : goal.returns-then-is_fresh
returns-then-is_fresh c =
    let s = slotted_some c.args.c c.requires.1 in
    elim c.if-is_opened.branch [
      | then-is_opened w ↦ order_on (has c.args.self.now.counts) c.args.self.now.last c.args.c _ refl s.0 _ c.is_opened.ensures _ s.1 w.if-is_opened.true _ w.is_fresh.ensures (sym w.value-is ∙ c.if-is_fresh.true) _ c.does_follow.ensures
      | else-is_opened w ↦ absurd (true≢false (sym c.if-is_fresh.true ∙ w.value-is ∙ w.if-is_opened.false))
    ]

pub returns-else-is_fresh : goal.returns-else-is_fresh
returns-else-is_fresh c =
    let s = slotted_some c.args.c c.requires.1 in
    c.if-is_fresh.false
    ∙ elim c.if-is_opened.branch [
      | then-is_opened w ↦ order_again (has c.args.self.now.counts) c.args.self.now.last c.args.c _ refl s.0 _ c.is_opened.ensures _ s.1 w.if-is_opened.true _ w.is_fresh.ensures (sym w.value-is ∙ c.if-is_fresh.false)
      | else-is_opened w ↦ order_closed (has c.args.self.now.counts) c.args.self.now.last c.args.c _ refl s.0 _ c.is_opened.ensures w.if-is_opened.false
    ]
