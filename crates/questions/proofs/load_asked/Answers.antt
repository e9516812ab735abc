use Rattle.rows.specs.Checked.{records_in}
use Rattle.questions.proofs.Replies.{asked_missing, asked_inside, asked_found, loads_as}
use Rattle.questions.proofs.load_asked.Goals as goal

pub returns-in_default : goal.returns-in_default
returns-in_default c = let a = c.args in asked_missing a.checked.now a.path.now a.ok c.if-not-ok.false _ c.locate.ensures c.in_default.is

pub load_record-requires : goal.load_record-requires
load_record-requires c = let a = c.args in asked_inside a.checked.now a.path.now a.ok c.if-not-ok.false _ c.locate.ensures _ c.in-Some.is

pub returns : goal.returns
returns c =
    let a = c.args in
    loads_as (records_in a.checked.now.book) _ _ (asked_found a.checked.now a.path.now a.ok c.if-not-ok.false _ c.locate.ensures _ c.in-Some.is) _ c.load_record.ensures
