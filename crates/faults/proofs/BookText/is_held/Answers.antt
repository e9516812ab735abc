use mathlib.Core.Path.{sym, ap, ◌∙◌}
use mathlib.Core.Bool.{true≢false}
use Prim.Native.Nat.{◌+◌, ◌-◌}
use native.Mathlib.Omega.{arith}
use borrow.Author.Tests.{lt-leb, leb-true}
use Rattle.strings.specs.Strings.{plain_byte, string_rule}
use Rattle.faults.proofs.Keeps.{held_on, each_part, cut_text}
use Rattle.faults.proofs.BookText.is_held.Goals.{then-c-self, else-c-self}
use Rattle.faults.proofs.BookText.is_held.Goals as goal

pub is_string-requires : goal.is_string-requires
is_string-requires c = let a = c.args in λ e. each_part plain_byte a.self.now.bytes.now a.c.start (a.c.start + a.c.len - a.c.start) (a.self.now.known_plain e)

pub returns-then-c-self-2 : goal.returns-then-c-self-2
returns-then-c-self-2 c =
    let a = c.args in
    elim c.if-c-self.branch [
      | then-c-self w ↦ held_on a.self.now.bytes.now a.c (omega (arith, w.if-c-self.true, leb-true _ _ (sym w.value-is ∙ c.if-c-self-2.true))) _ (c.is_string.ensures ∙ ap string_rule (cut_text a.self.now.bytes.now a.c))
      | else-c-self w ↦ absurd (true≢false (sym c.if-c-self-2.true ∙ w.value-is ∙ lt-leb _ _ w.if-c-self.false))
    ]
