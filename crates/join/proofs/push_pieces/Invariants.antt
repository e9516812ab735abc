use Rattle.std.proofs.Common.{length}
use Rattle.components.specs.Components.{split}
use Rattle.join.proofs.Pieces.{Walks}
use Rattle.join.proofs.push_pieces.Given as goal

abbrev pub invariant-loop-piece : goal.invariant-loop-piece
invariant-loop-piece l = Walks (split l.sub) l.fn.path (length l.yielded) l.path
