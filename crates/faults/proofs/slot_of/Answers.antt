use mathlib.Core.Path.{ap, ◌∙◌}
use Prim.Native.Nat.{ℕ, ◌+◌}
use borrow.Author.Rules.{rules}
use native.Mathlib.Omega.{arith}
use Rattle.std.specs.Prelude.{Some}
use Rattle.faults.proofs.Keeps.{slot_flag, slot_flag_id, slot_flag_value, slot_text, slot_text_id, slot_byte}
use Rattle.faults.proofs.slot_of.Goals as goal

pub returns-in-18 : goal.returns-in-18
returns-in-18 c = ap (λ (i : ℕ). Some (21 + i)) c.from.ensures ∙ slot_flag c.args.c c.in-18.is (omega arith) (omega arith)

pub returns-in-19 : goal.returns-in-19
returns-in-19 c = ap (λ (i : ℕ). Some (32 + i)) c.from-in-19.ensures ∙ slot_text c.args.c c.in-19.is (omega arith)

pub returns-in_default : goal.returns-in_default
returns-in_default c = ap (λ (i : ℕ). Some i) c.from-in_default.ensures ∙ slot_byte c.args.c (search rules) (search rules)

pub returns-in-18-2 : goal.returns-in-18-2
returns-in-18-2 c = slot_flag_value c.args.c c.in-18.is (omega arith)

pub returns-in-18-2-2 : goal.returns-in-18-2-2
returns-in-18-2-2 c = slot_flag_id c.args.c c.in-18.is (omega arith)

pub returns-in-18-2-3 : goal.returns-in-18-2-3
returns-in-18-2-3 c = slot_text_id c.args.c c.in-19.is (omega arith)
