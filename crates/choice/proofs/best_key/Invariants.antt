use Rattle.std.proofs.Common.{◌≡◌, ◌≤◌, None, length, option_map, IfSome}
use Rattle.record.specs.Lists.{key_of, keys_left}
use Rattle.record.specs.Read.{read}
use Rattle.book.specs.Record.{keys_of}
use Rattle.tsconfig.specs.Mapping.{best_key}
use Rattle.choice.specs.Keyed.{least_of}
use Rattle.choice.proofs.best_key.Given as goal

abbrev pub invariant-loop-key : goal.invariant-loop-key
invariant-loop-key g l = record {
  left : best_key l.spec (option_map key_of l.best) (keys_left l.key-iterator) ≡ best_key l.spec None (keys_of l.place.text.now (read l.place.commands.now l.place.at));
  least_is : l.least ≡ least_of (option_map key_of l.best);
  short : IfSome l.best (λ k. length k.name.now ≤ g.row.MOST);
}
