use Rattle.std.proofs.Common.{◌≡◌, length, map}
use Rattle.book.specs.Index.{record_at}
use Rattle.items.specs.Runs.{commands_left}
use Rattle.rows.specs.Own.{marked}
use Rattle.rows.proofs.mark_fields.Given as goal

abbrev pub invariant-loop-x : goal.invariant-loop-x
invariant-loop-x l = record {
  long : length l.row ≡ 28;
  left : marked l.c (map (λ p. p.0) (commands_left l.x-iterator)) l.row ≡ marked l.c (record_at l.commands l.rec) l.initial.row;
}
