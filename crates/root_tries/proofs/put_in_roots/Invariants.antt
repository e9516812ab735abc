use Rattle.std.proofs.Common.{◌≡◌, ◌+◌, Some, map, length}
use Rattle.emit.proofs.Outputs.{Left}
use Rattle.record.specs.Lists.{strings_left}
use Rattle.tsconfig.specs.Laid.{laid}
use Rattle.tsconfig.specs.Mapping.{in_roots}
use Rattle.roots.specs.Roots.{built_place, roots_of}
use Rattle.root_tries.proofs.put_in_roots.Given as goal

abbrev pub invariant-loop-s : goal.invariant-loop-s
invariant-loop-s l = record {
  left : Left (laid (in_roots l.root (Some l.rest) (roots_of l.record.commands.now l.record.text.now l.dir l.own l.record.at))) l.fn.out (laid (in_roots l.root (Some l.rest) (map (built_place l.dir l.own) (strings_left l.s-iterator)))) l.out;
  counts : l.count + length (in_roots l.root (Some l.rest) (map (built_place l.dir l.own) (strings_left l.s-iterator))) ≡ length (in_roots l.root (Some l.rest) (roots_of l.record.commands.now l.record.text.now l.dir l.own l.record.at));
}
