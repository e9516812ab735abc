use Rattle.std.proofs.Common.{ap}
use borrow.Author.Tests.{eq-eqb, ne_eqb}
use Rattle.std.specs.Prelude.{not}
use Rattle.items.proofs.Reading.{item_over, item_stop, item_here}
use Rattle.items.proofs.next_target.Goals as goal

pub returns-in-Ok : goal.returns-in-Ok
returns-in-Ok c = item_here _ _ _ _ _ c.command_at.ensures c.in-Ok.is (ap not (eq-eqb _ _ c.if-c-eq-TARGET.true)) (eq-eqb _ _ c.if-c-eq-TARGET.true)

pub returns-in_default : goal.returns-in_default
returns-in_default c = item_stop _ _ _ _ _ c.command_at.ensures c.in-Ok.is (ap not (ne_eqb _ _ c.if-c-eq-TARGET.false))

pub returns-in_default-2 : goal.returns-in_default-2
returns-in_default-2 c = item_over _ _ _ _ _ c.command_at.ensures c.in_default.is
