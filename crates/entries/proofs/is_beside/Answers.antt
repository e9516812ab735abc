use Rattle.std.proofs.Common.{arith}
use Rattle.entries.proofs.Beside.{beside_name}
use Rattle.entries.proofs.is_beside.Goals as goal

pub returns-then-not-hidden : goal.returns-then-not-hidden
returns-then-not-hidden c = beside_name c.args.s.now c.in-46.len_at_least (omega arith) (omega arith) c.if-not-hidden.true _ c.from.ensures _ c.find_byte.ensures _ c.is_none.ensures
