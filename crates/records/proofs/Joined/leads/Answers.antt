use Rattle.std.proofs.Common.{refl, ◌∙◌}
use borrow.Author.Tests.{le-ltb}
use Rattle.records.proofs.Paths.{inside_other, inside_none, inside_slash}
use Rattle.records.proofs.Joined.leads.Goals as goal

pub returns-then-k-q : goal.returns-then-k-q
returns-then-k-q c = inside_slash _ _ _ _ c.starts_with.ensures c.if-starts_with.true c.if-not-self.false c.if-k-q.true _ refl

pub returns-else-k-q : goal.returns-else-k-q
returns-else-k-q c = le-ltb _ _ c.if-k-q.false ∙ inside_none _ _ _ _ c.starts_with.ensures c.if-starts_with.true c.if-not-self.false c.if-k-q.false

pub returns-else-starts_with : goal.returns-else-starts_with
returns-else-starts_with c = inside_other _ _ c.args.self.now.apart _ c.starts_with.ensures c.if-starts_with.false
