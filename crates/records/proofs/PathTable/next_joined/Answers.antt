use Rattle.std.proofs.Common.{arith}
use Rattle.records.proofs.Paths.{passed_front, passed_tail}
use Rattle.records.proofs.PathTable.next_joined.Goals as goal

pub returns-then-k-p : goal.returns-then-k-p
returns-then-k-p c =
    let p = c.args.p.now in
    passed_front c.args.self.now.text.now p.front.now p.tail.now p.apart c.args.self.now.rows.now _ c.args.k _ c.if-k-p.true _ (omega arith) c.next_like.ensures

pub returns : goal.returns
returns c =
    let p = c.args.p.now in
    passed_tail c.args.self.now.text.now p.front.now p.tail.now p.apart c.args.self.now.rows.now _ c.args.k _ _ c.tail_start-at.ensures _ (omega arith) (omega arith) _ (omega arith) c.next_like-2.ensures
