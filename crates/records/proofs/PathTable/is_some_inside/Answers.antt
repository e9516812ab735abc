use Rattle.text.specs.Text.{prefix_of}
use Rattle.records.specs.Joined.{head_of}
use Rattle.records.proofs.Paths.{some_start, some_here, some_on, some_none}
use Rattle.records.proofs.PathTable.is_some_inside.Goals as goal

pub loop-i-init : goal.loop-i-init
loop-i-init c = record { within = c.next_joined-i.ensures.within; left = some_start _ _ (head_of c.args.p.now) _ (rw c.requires at c.next_joined-i.ensures) }

pub returns-then-leads : goal.returns-then-leads
returns-then-leads c = some_here _ _ (head_of c.args.p.now) _ c.loop-i-test.true _ c.path.ensures _ c.leads.ensures c.loop-i.invariant.left c.if-leads.true

pub loop-i-preserved : goal.loop-i-preserved
loop-i-preserved c =
    record {
      within = c.next_joined-i-in-loop-i.ensures.within;
      left = some_on _ _ (head_of c.args.p.now) _ c.loop-i-test.true _ c.path.ensures _ c.leads.ensures c.loop-i.invariant.left c.if-leads.false _ (rw c.requires at c.next_joined-i-in-loop-i.ensures);
    }

pub returns : goal.returns
returns c = some_none _ _ (prefix_of (head_of c.args.p.now)) _ c.loop-i-test.false c.loop-i.invariant.left
