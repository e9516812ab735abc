use Rattle.std.proofs.Common.{sym, ◌∙◌, arith}
use Rattle.std.proofs.lemmas.Bool.Decides.{nat_tests}
use Rattle.join.proofs.Plain.{plain_none, plain_by, after_next, after_last}
use Rattle.join.proofs.has_plain_names.Goals as goal

pub returns-then-is_empty : goal.returns-then-is_empty
returns-then-is_empty c = plain_none c.args.s.now (sym c.is_empty.ensures ∙ c.if-is_empty.true)

pub returns-then-not-opens_name : goal.returns-then-not-opens_name
returns-then-not-opens_name c = let e = plain_by c.args.s.now (grind (arith, nat_tests)) in grind (arith, nat_tests)

pub loop-i-init : goal.loop-i-init
loop-i-init c = let e = plain_by c.args.s.now (grind (arith, nat_tests)) in grind (arith, nat_tests)

pub loop-i-preserved : goal.loop-i-preserved
loop-i-preserved c = let e = after_next c.args.s.now c.loop-i.i (omega arith) (omega arith) in grind (arith, nat_tests)

pub returns : goal.returns
returns c = let e = after_last c.args.s.now c.loop-i.i (omega arith) (grind (arith, nat_tests)) in grind (arith, nat_tests)
