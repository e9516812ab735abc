use Rattle.text.specs.Bytes.{bytes}
use Rattle.emit.proofs.Outputs.{Left}
use Rattle.book.specs.Command as command
use Rattle.book.specs.Record.{strings}
use Rattle.record.specs.Read.{read}
use Rattle.record.specs.Lists.{strings_left}
use Rattle.tsconfig.specs.Listing.{rows}
use Rattle.lines.proofs.put_references.Given as goal

abbrev pub invariant-loop-s : goal.invariant-loop-s
invariant-loop-s g l = Left (rows (bytes "reference") (strings l.place.text.now command.reference (read l.place.commands.now l.place.at))) l.fn.out (rows (bytes "reference") (strings_left l.s-iterator)) l.out
