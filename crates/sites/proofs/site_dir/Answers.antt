use mathlib.Core.Path.{◌∙◌}
use Rattle.sites.proofs.Laws.{own_there, dir_is}
use Rattle.sites.proofs.site_dir.Goals as goal

pub returns-in-Some-clause-value : goal.returns-in-Some-clause-value
returns-in-Some-clause-value c = let e = c.in-Some.ensures in c.dir.ensures.value ∙ dir_is c.args.book.now c.args.row.now c.requires c.in-Some.own e.commands e.text e.at

pub returns-in-None-clause-value : goal.returns-in-None-clause-value
returns-in-None-clause-value c = own_there c.args.book.now c.args.row.now c.requires c.in-None.ensures.at
