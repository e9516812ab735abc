use Rattle.std.proofs.Common.{length, ap, arith}
use borrow.Author.Tests.{eq-eqb, ne_eqb}
use Rattle.items.proofs.Reading.{paired_over, paired_stop, paired_on}
use Rattle.items.proofs.CommandsIterator.next.Goals as goal

pub returns-in-Ok-clause-steps : goal.returns-in-Ok-clause-steps
returns-in-Ok-clause-steps c = paired_on _ _ _ c.command_at.ensures c.in-Ok.is (ne_eqb _ _ c.if-c-ne-END.true)

pub returns-in-Ok-clause-goes : goal.returns-in-Ok-clause-goes
returns-in-Ok-clause-goes c =
    let e = ap length (paired_on _ _ _ c.command_at.ensures c.in-Ok.is (ne_eqb _ _ c.if-c-ne-END.true)) in
    record { on = λ _. (tt, tt, omega (arith, e)); keeps = tt; rests = λ _. tt }

pub returns-in_default-clause-steps : goal.returns-in_default-clause-steps
returns-in_default-clause-steps c = let e = paired_stop _ _ _ c.command_at.ensures c.in-Ok.is (eq-eqb _ _ c.if-c-ne-END.false) in (e, e)

pub returns-in_default-2-clause-steps : goal.returns-in_default-2-clause-steps
returns-in_default-2-clause-steps c = let e = paired_over _ _ _ c.command_at.ensures c.in_default.is in (e, e)
