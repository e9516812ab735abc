use Rattle.std.proofs.Common.{◌≡◌, drop}
use Rattle.rows.specs.Checked.{records_in}
use Rattle.references.specs.References.{sites_of}
use Rattle.owner.specs.Owned.{claimer}
use Rattle.owner.proofs.first_claimer.Given as goal

abbrev pub invariant-loop-row : goal.invariant-loop-row
invariant-loop-row l = claimer l.path (sites_of (records_in l.book) l.refs) ≡ claimer l.path (sites_of (records_in l.book) (drop l.row-index l.refs))
