use Rattle.book.specs.Command.{extends}
use Rattle.book.specs.Index.{begin_of, record_at}
use Rattle.book.specs.Record.{strings}
use Rattle.record.specs.Lists.{strings_left}
use Rattle.entries.proofs.Going.{Reading}
use Rattle.entries.proofs.read_entries.Given as goal

abbrev pub invariant-loop-s : goal.invariant-loop-s
invariant-loop-s l = Reading l.checked l.dir (strings l.checked.book.paths.text.now extends (record_at l.checked.book.commands.now (begin_of l.checked.book.paths.rows.now l.c))) l.all (strings_left l.s-iterator) l.count
