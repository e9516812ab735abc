use Rattle.std.proofs.Common.{map}
use Rattle.text.specs.Bytes.{bytes}
use Rattle.emit.proofs.Outputs.{Left}
use Rattle.record.specs.Lists.{targets_left, key_of}
use Rattle.tsconfig.specs.Build.{adjusted}
use Rattle.tsconfig.specs.Listing.{rows}
use Rattle.lines.specs.Lines.{key_text}
use Rattle.lines.proofs.put_key.Given as goal

abbrev pub invariant-loop-s : goal.invariant-loop-s
invariant-loop-s l = Left (key_text l.dir l.base (key_of l.key)) l.fn.out (rows (bytes "target") (map (adjusted l.dir l.base) (targets_left l.s-iterator))) l.out
