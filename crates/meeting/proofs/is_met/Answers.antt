use Rattle.std.proofs.Common.{true, ◌∙◌, rules, tests}
use Rattle.std.proofs.lemmas.Iterator.Adapters.{YieldsList-from_rev_slice}
use Rattle.std.proofs.lemmas.Iterator.Search.{any_from_yields_List}
use Rattle.meeting.proofs.Rows.{row_met, rows_met}
use Rattle.meeting.proofs.is_met.Goals as goal

pub returns : goal.returns
returns c =
    let a = c.args in
    any_from_yields_List (row_met true a.text.now a.s.now a.mark) _ _ _ c.any.ensures.ran (YieldsList-from_rev_slice a.rows.now cc) (λ x b q k. search (rules, tests))
    ∙ rows_met true a.text.now a.s.now a.mark c.requires.mark_value a.rows.now c.requires.seen
