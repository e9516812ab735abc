use Rattle.std.proofs.Common.{map}
use Rattle.text.specs.Bytes.{bytes}
use Rattle.emit.proofs.Outputs.{Left}
use Rattle.record.specs.Lists.{strings_left}
use Rattle.tsconfig.specs.Listing.{rows}
use Rattle.lines.specs.Lines.{built_place, built_roots}
use Rattle.lines.proofs.put_root_rows.Given as goal

abbrev pub invariant-loop-s : goal.invariant-loop-s
invariant-loop-s l = Left (rows (bytes "rootDir") (built_roots l.record l.dir l.own)) l.fn.out (rows (bytes "rootDir") (map (built_place l.dir l.own) (strings_left l.s-iterator))) l.out
