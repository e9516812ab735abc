use mathlib.Core.Path.{ap, ◌∙◌}
use mathlib.Core.Bool.{Bool}
use Prim.Native.Nat.{ℕ, ◌*◌, ◌≤◌}
use lib.ListN.{length}
use native.Mathlib.Omega.{arith}
use Rattle.strings.specs.Scan.{tame_byte, tame_text}
use Rattle.strings.specs.Strings.{plain_byte, string_rule}
use Rattle.checker.proofs.Plain.{looked_none, looked_next, plain_tame, plain_string, kept_all}
use Rattle.checker.proofs.known_text.Goals.{else-not-part_tame-via-then-not-part_tame+else-not-is_string, else-not-part_tame-via-else-not-part_tame}
use Rattle.checker.proofs.known_text.Goals as goal

pub loop-i-init : goal.loop-i-init
loop-i-init c = looked_none c.args.bytes.now

pub loop-i-preserved : goal.loop-i-preserved
loop-i-preserved c =
    let d = c.is_tame-part_tame.ensures ∙ ap tame_text c.piece-part.ensures in
    looked_next c.args.bytes.now c.loop-i.tame c.loop-i.parts c.loop-i.i c.loop-i.invariant c.is_tame-part_tame.result d (omega arith)
    (elim c.else-not-part_tame.branch [
      | else-not-part_tame-via-then-not-part_tame+else-not-is_string w ↦ plain_string _ w.is_string.result (w.is_string.ensures ∙ ap string_rule c.piece-part.ensures) w.if-not-is_string.false
      | else-not-part_tame-via-else-not-part_tame w ↦ plain_tame c.args.bytes.now c.loop-i.tame c.loop-i.parts c.loop-i.i c.loop-i.invariant c.is_tame-part_tame.result d (omega arith) w.if-not-part_tame.false
    ])

pub invariant_of-result : goal.invariant_of-result
unfolding tame_text
invariant_of-result c =
    let done : length c.args.bytes.now ≤ 512 * c.loop-i.i = omega arith in
    let all = λ (P : ℕ → Bool). kept_all P c.args.bytes.now c.loop-i.i done in
    record { known_plain = λ e. all plain_byte c.loop-i.invariant.plain; known = λ e. all tame_byte (c.loop-i.invariant.all_tame e); known_parts = c.loop-i.invariant.tame }
