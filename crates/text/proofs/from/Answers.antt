use Rattle.text.proofs.Parts.{from_none, from_some}
use borrow.Author.Rules.{rules}
use Rattle.text.proofs.from.Goals as goal

pub returns-then-s-k : goal.returns-then-s-k
returns-then-s-k c = search (rules, from_none)

pub returns : goal.returns
returns c = let a = c.args in from_some a.s.now a.k
