use Rattle.record.proofs.Short.{good_short}
use Rattle.rows.proofs.Book.record_at.Goals as goal

pub invariant_of-result : goal.invariant_of-result
invariant_of-result c =
    let b = c.args.self.now in
    record { short = good_short _ _ (b.records.sound c.args.c c.requires).each }
