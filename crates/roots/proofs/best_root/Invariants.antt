use Rattle.std.proofs.Common.{◌≡◌, ◌≤◌, None, map, length, option_copied, option_map, IfSome}
use Rattle.record.specs.Lists.{strings_left}
use Rattle.tsconfig.specs.Mapping.{root_above}
use Rattle.roots.specs.Roots.{built_place, roots_of}
use Rattle.roots.proofs.Roots.{least_of}
use Rattle.roots.proofs.best_root.Given as goal

abbrev pub invariant-loop-s : goal.invariant-loop-s
invariant-loop-s l = record {
  left : root_above l.p (option_map (built_place l.dir l.own) (option_copied l.best)) (map (built_place l.dir l.own) (strings_left l.s-iterator)) ≡ root_above l.p None (roots_of l.record.commands.now l.record.text.now l.dir l.own l.record.at);
  least_is : l.least ≡ least_of (option_map (built_place l.dir l.own) (option_copied l.best));
  short : IfSome l.best (λ s. length s.now ≤ 512);
}
