use Rattle.rows.proofs.Own.{own_row_law}
use Rattle.rows.proofs.own_row.Goals as goal

pub returns : goal.returns
returns c = own_row_law _ _ _ c.mark_fields.ensures
