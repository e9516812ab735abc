use Rattle.tsconfig.specs.Config.{flag}
use Rattle.rows.specs.Rows.{slot}
use Rattle.claims.proofs.Sites.{field_none, flag_some}
use Rattle.claims.proofs.allow_js.Goals as goal

pub returns-in-Some : goal.returns-in-Some
returns-in-Some c =
    let e = c.in-Some.ensures in
    rw (flag_some c.args.config.now c.in-Some.supplier e.commands e.text e.at, ← c.flag.ensures) c.unwrap_or.ensures

pub returns-in-None : goal.returns-in-None
unfolding slot
returns-in-None c = rw (field_none c.args.config.now (flag 8) c.in-None.ensures.at)
