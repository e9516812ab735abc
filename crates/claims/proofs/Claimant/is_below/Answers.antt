use Rattle.path.specs.Path.{is_some}
use Rattle.tsconfig.specs.Config.{files}
use Rattle.tsconfig.specs.Claims.{included}
use Rattle.rows.specs.Rows.{slot}
use Rattle.claims.proofs.Sites.{field_none, files_some}
use Rattle.claims.proofs.Claimant.is_below.Goals as goal

pub returns-in-Some : goal.returns-in-Some
unfolding included is_some
returns-in-Some c =
    let s = c.args.self.now in
    let e = c.in-Some.ensures in
    rw (files_some s.config.now c.in-Some.field-0 e.commands e.text e.at)

pub returns-then-lies_under : goal.returns-then-lies_under
unfolding slot included is_some
returns-then-lies_under c =
    let s = c.args.self.now in
    rw (field_none s.config.now files c.in-None.ensures.at, ← s.config.now.place, ← c.lies_under.ensures, c.if-lies_under.true, ← s.allows) c.is_allowed.ensures

pub returns-else-lies_under : goal.returns-else-lies_under
unfolding slot included is_some
returns-else-lies_under c =
    let s = c.args.self.now in
    rw (field_none s.config.now files c.in-None.ensures.at, ← s.config.now.place, ← c.lies_under.ensures, c.if-lies_under.false)
