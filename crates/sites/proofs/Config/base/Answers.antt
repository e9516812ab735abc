use mathlib.Core.Path.{◌∙◌}
use Rattle.sites.proofs.Laws.{base_there, base_is}
use Rattle.sites.proofs.Config.base.Goals as goal

pub returns-in-Some-clause-value : goal.returns-in-Some-clause-value
returns-in-Some-clause-value c =
    let s = c.args.self.now in
    let e = c.in-Some.ensures in
    c.base_of.ensures.value ∙ base_is s.book.now s.row.now s.named c.in-Some.supplier e.commands e.text e.at _ s.place

pub returns-in-None-clause-value : goal.returns-in-None-clause-value
returns-in-None-clause-value c = let s = c.args.self.now in base_there s.book.now s.row.now s.named c.in-None.ensures.at
