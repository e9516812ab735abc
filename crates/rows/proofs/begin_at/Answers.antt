use Rattle.std.proofs.Common.{arith}
use Rattle.rows.proofs.Begins.{begin_none, begin_there, begin_some}
use Rattle.rows.proofs.begin_at.Goals as goal

pub returns-then-c : goal.returns-then-c
returns-then-c c = begin_none _ _ _ (omega arith) c.if-c.true

pub bounds-rows-from : goal.bounds-rows-from
bounds-rows-from c = begin_there c.args.rows.now c.args.row.now c.args.k (omega arith) c.if-c.false _ c.from.ensures c.requires.1

pub returns : goal.returns
returns c = begin_some _ c.args.row.now c.args.k (omega arith) c.if-c.false _ c.from.ensures
