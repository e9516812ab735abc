use mathlib.Core.Path.{ap, sym}
use lib.ListN.{length, take}
use lib.Seq.{length-take-le}
use Rattle.components.proofs.Components.{lead_le}
use Rattle.ends.proofs.Ends.{ends_le}
use Rattle.ends.proofs.Parents.{body_within, slash_within, parent_dot, parent_self, parent_lead, parent_more}
use native.Mathlib.Omega.{arith}
use borrow.Author.Rules.{rules}
use Rattle.ends.proofs.parent_len.Goals as goal

pub slice_bounds-trim_end-count : goal.slice_bounds-trim_end-count
slice_bounds-trim_end-count c = omega (arith, lead_le c.args.s.now, c.lead_len-a.ensures)

pub slice_bounds-trim_end-start : goal.slice_bounds-trim_end-start
slice_bounds-trim_end-start c = omega (arith, lead_le c.args.s.now, c.lead_len-a.ensures)

pub slice_bounds-trim_end-end-2 : goal.slice_bounds-trim_end-end-2
slice_bounds-trim_end-end-2 c =
    let l = slash_within c.args.s.now _ c.lead_len-a.ensures _ c.trim_end-body.ensures (search rules) _ c.find_last.ensures _ c.in-Some.is in
    sym (length-take-le c.in-Some.i c.trim_end-body.result.now (omega (arith, l)))

pub returns-then-leads_dot : goal.returns-then-leads_dot
returns-then-leads_dot c = parent_dot _ _ c.lead_len-a.ensures _ c.trim_end-body.ensures (search rules) _ c.leads_dot.ensures c.if-leads_dot.true

pub returns-else-leads_dot : goal.returns-else-leads_dot
returns-else-leads_dot c = parent_self _ _ c.lead_len-a.ensures _ c.trim_end-body.ensures (search rules) _ c.leads_dot.ensures c.if-leads_dot.false

pub returns-in_default : goal.returns-in_default
returns-in_default c = parent_lead _ _ c.lead_len-a.ensures _ c.trim_end-body.ensures (search rules) _ c.find_last.ensures c.in_default.is

pub overflow_add-result : goal.overflow_add-result
overflow_add-result c =
    let t = c.trim_end-body.result.now in
    let l = slash_within c.args.s.now _ c.lead_len-a.ensures _ c.trim_end-body.ensures (search rules) _ c.find_last.ensures _ c.in-Some.is in
    let k = length-take-le c.in-Some.i t (omega (arith, l)) in
    omega (arith, l, k, body_within _ _ c.lead_len-a.ensures _ c.trim_end-body.ensures, ap length c.trim_end.ensures, ends_le (take c.in-Some.i t))

pub returns : goal.returns
returns c = parent_more _ _ c.lead_len-a.ensures _ c.trim_end-body.ensures (search rules) _ c.find_last.ensures _ c.in-Some.is _ c.trim_end.ensures
