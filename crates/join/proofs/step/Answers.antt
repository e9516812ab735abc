use Rattle.std.proofs.Common.{sym, ◌∙◌, arith}
use Rattle.emit.specs.Output.{text_of}
use Rattle.join.proofs.Pieces.{step_skip, step_up, step_name}
use Rattle.join.proofs.step.Goals as goal

pub returns-in-Skip : goal.returns-in-Skip
returns-in-Skip c = step_skip c.args.path.now (omega (arith, c.requires)) c.args.piece.now (sym c.in-Skip.is ∙ c.piece_kind.ensures)

pub returns-in-Up : goal.returns-in-Up
returns-in-Up c = step_up c.args.path.now (omega (arith, c.requires)) c.args.piece.now (sym c.in-Up.is ∙ c.piece_kind.ensures) _ (rw c.text.ensures at c.parent_len-end.ensures) _ c.truncate.ensures

pub returns-in-Name : goal.returns-in-Name
returns-in-Name c = rw (← step_name (text_of c.args.path.now) c.args.piece.now (sym c.in-Name.is ∙ c.piece_kind.ensures)) c.push.ensures
