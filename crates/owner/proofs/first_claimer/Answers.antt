use Rattle.std.proofs.Common.{Some, ap, ◌∙◌, refl}
use Rattle.rows.specs.Checked.{records_in}
use Rattle.sites.proofs.Laws.{site_is}
use Rattle.tsconfig.specs.Claims.{claims}
use Rattle.rows.specs.Rows.{Row}
use Rattle.verdicts.proofs.Accepted.{all_at}
use Rattle.owner.proofs.Walks.{search_end, search_found, search_on}
use Rattle.owner.proofs.first_claimer.Goals as goal

pub new-requires : goal.new-requires
new-requires c = all_at (Row (records_in c.args.book.now)) c.args.refs.now _ c.requires _ c.loop-row-test.true

pub returns-then-is_claimed : goal.returns-then-is_claimed
returns-then-is_claimed c =
    let a = c.args in
    ap Some c.site_number.ensures ∙ search_found a.path.now (records_in a.book.now) a.refs.now _ c.loop-row.invariant c.loop-row-test.true _ _ _ refl (c.is_claimed.ensures ∙ ap (claims a.path.now) (site_is c.new.result _ _ c.new.ensures.book c.new.ensures.row)) c.if-is_claimed.true

pub loop-row-preserved : goal.loop-row-preserved
loop-row-preserved c = let a = c.args in search_on a.path.now (records_in a.book.now) a.refs.now _ c.loop-row.invariant c.loop-row-test.true _ _ _ refl (c.is_claimed.ensures ∙ ap (claims a.path.now) (site_is c.new.result _ _ c.new.ensures.book c.new.ensures.row)) c.if-is_claimed.false

pub returns : goal.returns
returns c = let a = c.args in search_end a.path.now (records_in a.book.now) a.refs.now _ c.loop-row.invariant c.loop-row-test.false
