use Rattle.std.proofs.Common.{map}
use Rattle.emit.proofs.Outputs.{Left}
use Rattle.record.specs.Lists.{keys_left}
use Rattle.tsconfig.specs.Listing.{key_rows}
use Rattle.lines.specs.Lines.{built_key, built_keys}
use Rattle.lines.proofs.put_keys.Given as goal

abbrev pub invariant-loop-key : goal.invariant-loop-key
invariant-loop-key l = Left (key_rows (built_keys l.record l.dir l.base)) l.fn.out (key_rows (map (built_key l.dir l.base) (keys_left l.key-iterator))) l.out
