use Rattle.std.proofs.Common.{◌+◌, ◌*◌, length}
use Rattle.glob.specs.Glob.{glob_of, after, after_dirs, no_slash}
use Rattle.glob.specs.Verdicts.{inside_of, dirs_of}
use Rattle.glob.proofs.Tries.{Carries}
use Rattle.matcher.proofs.+glob.Given as goal

abbrev pub decreases-glob : goal.decreases-glob
decreases-glob l = 2 * (length l.p.now + length l.s.now)

abbrev pub decreases-after_star : goal.decreases-after_star
decreases-after_star l = 2 * (length l.p.now + length l.s.now) + 1

abbrev pub decreases-after_stars : goal.decreases-after_stars
decreases-after_stars l = 2 * (length l.p.now + length l.s.now) + 1

abbrev pub invariant-after_star-loop-here : goal.invariant-after_star-loop-here
invariant-after_star-loop-here l = Carries inside_of (after no_slash (glob_of l.p)) l.s l.left

abbrev pub decreases-after_star-loop-here : goal.decreases-after_star-loop-here
decreases-after_star-loop-here l = length l.left

abbrev pub invariant-after_stars-loop-here : goal.invariant-after_stars-loop-here
invariant-after_stars-loop-here l = Carries dirs_of (after_dirs (glob_of l.p)) l.s l.here

abbrev pub decreases-after_stars-loop-here : goal.decreases-after_stars-loop-here
decreases-after_stars-loop-here l = length l.here
