use Rattle.std.proofs.Common.{◌≡◌, ◌-◌}
use Rattle.tsconfig_resolver.specs.Project.{owner_of, owner_from}
use Rattle.rows.specs.Checked.{records_in}
use Rattle.owner.proofs.Walks.{left}
use Rattle.owner.proofs.find_owner.Given as goal

abbrev pub invariant-loop : goal.invariant-loop
invariant-loop l = owner_of (records_in l.checked.book) l.path ≡ owner_from (records_in l.checked.book) l.path (left (l.end - l.counter) l.folder)
