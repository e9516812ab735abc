use Rattle.std.proofs.Common.{◌≡◌}
use Rattle.book.specs.Record.{keys_of}
use Rattle.record.specs.Read.{read}
use Rattle.record.specs.Lists.{keys_left}
use Rattle.tsconfig.specs.Mapping.{equal_key}
use Rattle.choice.proofs.equal_key.Given as goal

abbrev pub invariant-loop-key : goal.invariant-loop-key
invariant-loop-key g l = equal_key l.spec (keys_left l.key-iterator) ≡ equal_key l.spec (keys_of l.place.text.now (read l.place.commands.now l.place.at))
