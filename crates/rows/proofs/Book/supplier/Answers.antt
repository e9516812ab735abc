use Rattle.std.proofs.Common.{sym, ◌∙◌}
use Rattle.rows.proofs.Fields.{place_short}
use Rattle.rows.proofs.Book.supplier.Goals as goal

pub invariant_of-result : goal.invariant_of-result
invariant_of-result c =
    let b = c.args.self.now in
    record { short = place_short b.commands.now b.paths.text.now b.paths.rows.now b.records c.args.row.now c.args.k _ c.requires.there (sym c.in_ok-at.was ∙ c.begin_at.ensures) }
