use Rattle.std.proofs.Common.{map}
use Rattle.emit.proofs.Outputs.{Left}
use Rattle.record.specs.Lists.{strings_left}
use Rattle.tsconfig.specs.Build.{adjusted}
use Rattle.tsconfig.specs.Listing.{rows}
use Rattle.lines.specs.Lines.{built_strings}
use Rattle.lines.proofs.put_strings.Given as goal

abbrev pub invariant-loop-s : goal.invariant-loop-s
invariant-loop-s l = Left (rows l.name (built_strings l.record l.dir l.op)) l.fn.out (rows l.name (map (adjusted l.dir l.dir) (strings_left l.s-iterator))) l.out
