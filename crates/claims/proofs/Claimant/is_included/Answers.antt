use Rattle.std.proofs.Common.{◌∙◌, ap, sym}
use Rattle.tsconfig.specs.Config.{include}
use Rattle.tsconfig.specs.Claims.{included}
use Rattle.rows.specs.Rows.{slot}
use Rattle.sites.specs.Sites.{site_in}
use Rattle.claims.proofs.Sites.{field_none, include_some}
use Rattle.claims.proofs.Claimant.is_included.Goals as goal

pub returns-in-Some : goal.returns-in-Some
unfolding included
returns-in-Some c =
    let s = c.args.self.now in
    let e = c.in-Some.ensures in
    rw (include_some s.config.now c.in-Some.supplier e.commands e.text e.at, ← s.config.now.place, ← s.allows) c.is_some_matched.ensures

pub returns-in-None : goal.returns-in-None
unfolding slot
returns-in-None c =
    let s = c.args.self.now in
    c.is_below.ensures ∙ ap (included (site_in s.config.now) c.args.path.now) (sym (field_none s.config.now include c.in-None.ensures.at))
