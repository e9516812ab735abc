use Rattle.std.proofs.Common.{arith, ◌+◌}
use Rattle.text.proofs.Parts.{from_some}
use Rattle.glob.proofs.Fronts.{star_leads, stars_leads, rest_never, rest_yes}
use Rattle.glob.proofs.Tokens.{run_last, run_alone, rest_last, dirs_next, run_next}
use Rattle.glob.proofs.at_star.Goals as goal

pub returns-in-42 : goal.returns-in-42
returns-in-42 c = rest_never _ _ _ c.requires _ (from_some c.args.p.now (c.args.i + 1)) (rest_last _ (omega arith) (omega arith) (omega arith)) c.if-s-i.true

pub returns-in-42-2 : goal.returns-in-42-2
returns-in-42-2 c = rest_yes _ _ _ c.requires _ (from_some c.args.p.now (c.args.i + 1)) (rest_last _ (omega arith) (omega arith) (omega arith)) c.if-s-i.false

pub returns-in-42-3 : goal.returns-in-42-3
returns-in-42-3 c = stars_leads _ _ _ c.requires _ (from_some c.args.p.now (c.args.i + 1)) (dirs_next _ (omega arith) (omega arith) (omega arith) (omega arith))

pub returns-in_default : goal.returns-in_default
returns-in_default c = star_leads _ _ _ c.requires _ (from_some c.args.p.now (c.args.i + 1)) (run_last _ (omega arith))

pub returns-in_default-2 : goal.returns-in_default-2
returns-in_default-2 c = star_leads _ _ _ c.requires _ (from_some c.args.p.now (c.args.i + 1)) (run_alone _ (omega arith) (omega arith))

pub returns-in_default-3 : goal.returns-in_default-3
returns-in_default-3 c = star_leads _ _ _ c.requires _ (from_some c.args.p.now (c.args.i + 1)) (run_next _ (omega arith) (omega arith) (omega arith) (omega arith))

pub returns-in_default-4 : goal.returns-in_default-4
returns-in_default-4 c = star_leads _ _ _ c.requires _ (from_some c.args.p.now (c.args.i + 1)) (run_alone _ (omega arith) (omega arith))
