use Rattle.tsconfig.specs.Config.{exclude}
use Rattle.tsconfig.specs.Claims.{excluded}
use Rattle.rows.specs.Rows.{slot}
use Rattle.claims.proofs.Sites.{field_none, exclude_some}
use Rattle.claims.proofs.Claimant.is_excluded.Goals as goal

pub returns-in-Some : goal.returns-in-Some
unfolding excluded
returns-in-Some c =
    let s = c.args.self.now in
    let e = c.in-Some.ensures in
    rw (exclude_some s.config.now c.in-Some.supplier e.commands e.text e.at, ← s.config.now.place, ← s.allows) c.is_some_matched.ensures

pub returns-in-None : goal.returns-in-None
unfolding slot excluded
returns-in-None c = let s = c.args.self.now in rw (field_none s.config.now exclude c.in-None.ensures.at)
