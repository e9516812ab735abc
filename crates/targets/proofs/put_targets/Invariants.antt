use Rattle.std.proofs.Common.{◌≡◌, ◌+◌, map, length, option_copied}
use Rattle.emit.proofs.Outputs.{Left}
use Rattle.record.specs.Lists.{targets_left}
use Rattle.tsconfig.specs.Laid.{laid}
use Rattle.targets.specs.Targets.{target_as, EachShort}
use Rattle.targets.proofs.put_targets.Given as goal

abbrev pub invariant-loop-t : goal.invariant-loop-t
invariant-loop-t g l = record {
  left : Left (laid (map (target_as l.dir l.base (option_copied l.part)) (targets_left l.fn.targets))) l.fn.out (laid (map (target_as l.dir l.base (option_copied l.part)) (targets_left l.t-iterator))) l.out;
  each : EachShort (targets_left l.t-iterator);
  counts : l.count + length (targets_left l.t-iterator) ≡ length (targets_left l.fn.targets);
}
