use Rattle.std.proofs.Common.{◌∙◌, rules, tests}
use Rattle.std.proofs.lemmas.Iterator.Adapters.{YieldsList-from_rev_slice}
use Rattle.std.proofs.lemmas.Iterator.Search.{any_from_yields_List}
use Rattle.meeting.proofs.Rows.{key_met, keys_met}
use Rattle.meeting.proofs.is_known.Goals as goal

pub returns : goal.returns
returns c =
    let a = c.args in
    any_from_yields_List (key_met a.text.now a.s.now a.mark) _ _ _ c.any.ensures.ran (YieldsList-from_rev_slice a.rows.now cc) (λ x b q k. search (rules, tests))
    ∙ keys_met a.text.now a.s.now a.mark c.requires.mark_value a.rows.now c.requires.seen
