use Rattle.std.proofs.Common.{◌∙◌, ap, arith}
use lib.ListN.{length-set}
use Rattle.items.specs.declared.Commands.{Commands}
use Rattle.rows.proofs.Own.{marks_start, marks_over, marks_on, marks_past}
use Rattle.rows.proofs.mark_fields.Goals as goal

pub loop-x-init : goal.loop-x-init
loop-x-init c =
    let a = c.args in
    let begun = c.into_iter-x-iterator.ensures.into_iter_gives in
    record { long = c.told-row; left = marks_start a.c a.commands.now a.rec c.into_iter-x-iterator.result (ap (λ (i : Commands). i.commands.now) begun) (ap (λ (i : Commands). i.at) begun) a.row.now }

pub loop-x-preserved-in-Some-slot_of : goal.loop-x-preserved-in-Some-slot_of
loop-x-preserved-in-Some-slot_of c =
    let i = c.loop-x.invariant in
    record {
      long = length-set c.loop-x.row c.in-Some-slot_of.k c.args.c ∙ i.long;
      left = marks_on c.args.c _ _ _ _ c.in-Some.ensures.steps c.in-Some-slot_of.k c.in-Some-slot_of.ensures.place ∙ i.left;
    }

pub loop-x-preserved : goal.loop-x-preserved
loop-x-preserved c =
    let i = c.loop-x.invariant in
    record { long = i.long; left = marks_past c.args.c _ _ _ _ c.in-Some.ensures.steps 28 c.in_default.ensures.place (omega arith) ∙ i.left }

pub returns : goal.returns
returns c = marks_over c.args.c _ _ c.in-None.ensures.steps.0 ∙ c.loop-x.invariant.left
