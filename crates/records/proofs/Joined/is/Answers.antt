use Rattle.records.proofs.Paths.{joined_length, joined_other, joined_inside}
use Rattle.records.proofs.Joined.is.Goals as goal

pub returns-then-q-k : goal.returns-then-q-k
returns-then-q-k c = let p = c.args.self.now in joined_length p.front.now p.tail.now c.args.q.now p.apart _ c.tail_start-k.ensures c.if-q-k.true

pub returns-then-starts_with : goal.returns-then-starts_with
returns-then-starts_with c = let p = c.args.self.now in joined_inside p.front.now p.tail.now c.args.q.now p.apart _ c.tail_start-k.ensures c.if-q-k.false _ c.from.ensures _ c.starts_with.ensures c.if-starts_with.true _ c.leads.ensures

pub returns-else-starts_with : goal.returns-else-starts_with
returns-else-starts_with c = let p = c.args.self.now in joined_other p.front.now p.tail.now c.args.q.now p.apart _ c.tail_start-k.ensures c.if-q-k.false _ c.from.ensures _ c.starts_with.ensures c.if-starts_with.false
