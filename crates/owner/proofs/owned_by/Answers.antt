use Rattle.std.proofs.Common.{◌∙◌, sym}
use Rattle.sites.specs.Sites.{site_in}
use Rattle.rows.specs.Checked.{records_in}
use Rattle.references.specs.References.{sites_of}
use Rattle.owner.proofs.Walks.{owned_reference, owned_itself, owned_not, own_number}
use Rattle.owner.proofs.owned_by.Goals as goal

pub returns-in-Some : goal.returns-in-Some
returns-in-Some c =
    let a = c.args in
    let rs = records_in a.config.now.book.now in
    owned_reference a.path.now (site_in a.config.now) (sites_of rs a.refs.now) _ (c.site_number-found.ensures ∙ sym (own_number rs a.config.now.row.now)) _ c.first_claimer.ensures _ c.in-Some.is

pub returns-then-is_claimed : goal.returns-then-is_claimed
returns-then-is_claimed c =
    let a = c.args in
    let rs = records_in a.config.now.book.now in
    owned_itself a.path.now (site_in a.config.now) (sites_of rs a.refs.now) _ (c.site_number-found.ensures ∙ sym (own_number rs a.config.now.row.now)) _ c.first_claimer.ensures c.in_default.is _ c.is_claimed.ensures c.if-is_claimed.true

pub returns : goal.returns
returns c =
    let a = c.args in
    let rs = records_in a.config.now.book.now in
    owned_not a.path.now (site_in a.config.now) (sites_of rs a.refs.now) _ (c.site_number-found.ensures ∙ sym (own_number rs a.config.now.row.now)) _ c.first_claimer.ensures c.in_default.is _ c.is_claimed.ensures c.if-is_claimed.false
