use mathlib.Core.Path.{refl, sym, ap, ◌∙◌}
use mathlib.Core.Bool.{false}
use Prim.Native.Nat.{◌+◌, ◌-◌}
use Rattle.compare.specs.Compare.{digest_of}
use Rattle.book.specs.Command.{operands}
use Rattle.faults.proofs.Keeps.{each_part, cut_text}
use Rattle.usual.specs.Usual.{barred}
use Rattle.usual.proofs.Passing.{read_op}
use Rattle.usual.proofs.Keys.{out_wrong, in_good, end_small, fine_short, fine_shut, fine_full, fine_wrong, fine_met, fine_on, key_put}
use Rattle.usual.proofs.pass_key.Goals.{then-part-at-lt-STRIDE-via-then-part-at-lt-STRIDE, then-part-at-lt-STRIDE-via-else-part-at-lt-STRIDE+then-not-has, then-part-at-lt-STRIDE-via-else-part-at-lt-STRIDE+else-not-has+then-tally-ge-MOST_KEYS}
use native.Mathlib.Omega.{arith}
use Rattle.std.proofs.Math.Facts.{Fits-lt-pow}
use Rattle.strings.specs.Strings.{plain_byte}
use Rattle.usual.proofs.pass_key.Goals as goal

pub returns-then-part-at-lt-STRIDE : goal.returns-then-part-at-lt-STRIDE
returns-then-part-at-lt-STRIDE c =
    elim c.then-part-at-lt-STRIDE.branch [
      | then-part-at-lt-STRIDE-via-then-part-at-lt-STRIDE w ↦ barred (fine_short c.args.part.now c.args.at c.args.text.now.bytes.now c.args.tally.now.counts c.args.keys.now w.if-part-at-lt-STRIDE.true)
      | then-part-at-lt-STRIDE-via-else-part-at-lt-STRIDE+then-not-has w ↦ barred (fine_shut c.args.part.now c.args.at c.args.text.now.bytes.now c.args.tally.now.counts c.args.keys.now w.if-part-at-lt-STRIDE.false (sym w.has.ensures ∙ w.if-not-has.true))
      | then-part-at-lt-STRIDE-via-else-part-at-lt-STRIDE+else-not-has+then-tally-ge-MOST_KEYS w ↦ barred (fine_full c.args.part.now c.args.at c.args.text.now.bytes.now c.args.tally.now.counts c.args.keys.now w.if-part-at-lt-STRIDE.false (sym w.has.ensures ∙ w.if-not-has.false) w.if-tally-ge-MOST_KEYS.true)
    ]

pub overflow_add-c : goal.overflow_add-c
overflow_add-c c = omega (arith, end_small c.args.part.now (λ i. Fits-lt-pow (c.type_inv.part i)) c.args.at _ (c.read_span-c.ensures ∙ ap (operands 4) c.from.ensures))

pub returns-then-text-c : goal.returns-then-text-c
returns-then-text-c c = barred (fine_wrong c.args.part.now c.args.at c.args.text.now.bytes.now c.args.tally.now.counts c.args.keys.now c.if-part-at-lt-STRIDE.false (sym c.has.ensures ∙ c.if-not-has.false) c.if-tally-ge-MOST_KEYS.false _ (c.read_span-c.ensures ∙ ap (operands 4) c.from.ensures) false (out_wrong c.args.text.now.bytes.now _ c.if-text-c.true) refl)

pub is_string-requires : goal.is_string-requires
is_string-requires c = λ e. each_part plain_byte c.args.text.now.bytes.now c.read_span-c.result.start (c.read_span-c.result.start + c.read_span-c.result.len - c.read_span-c.result.start) (c.args.text.now.known_plain e)

pub returns-then-not-is_string : goal.returns-then-not-is_string
returns-then-not-is_string c = barred (fine_wrong c.args.part.now c.args.at c.args.text.now.bytes.now c.args.tally.now.counts c.args.keys.now c.if-part-at-lt-STRIDE.false (sym c.has.ensures ∙ c.if-not-has.false) c.if-tally-ge-MOST_KEYS.false _ (c.read_span-c.ensures ∙ ap (operands 4) c.from.ensures) _ (in_good c.args.text.now.bytes.now _ (read_op c.args.part.now c.args.at 11 _ c.requires.at_in_bounds.0 c.requires.at_in_bounds.1 (c.read_span-c.ensures ∙ ap (operands 4) c.from.ensures)) c.if-text-c.false _ c.is_string.ensures) c.if-not-is_string.true)

pub returns-then-is_known : goal.returns-then-is_known
returns-then-is_known c = barred (fine_met c.args.part.now c.args.at c.args.text.now.bytes.now c.args.tally.now.counts c.args.keys.now c.if-part-at-lt-STRIDE.false (sym c.has.ensures ∙ c.if-not-has.false) c.if-tally-ge-MOST_KEYS.false _ (c.read_span-c.ensures ∙ ap (operands 4) c.from.ensures) _ (in_good c.args.text.now.bytes.now _ (read_op c.args.part.now c.args.at 11 _ c.requires.at_in_bounds.0 c.requires.at_in_bounds.1 (c.read_span-c.ensures ∙ ap (operands 4) c.from.ensures)) c.if-text-c.false _ c.is_string.ensures) c.if-not-is_string.false _ (cut_text c.args.text.now.bytes.now _) _ c.is_known.ensures c.if-is_known.true)

pub returns : goal.returns
returns c = key_put c.args.part.now c.args.at c.args.text.now.bytes.now c.args.tally.now.counts c.args.keys.now c.args.tally.now.last c.requires.at_in_bounds.1 (fine_on c.args.part.now c.args.at c.args.text.now.bytes.now c.args.tally.now.counts c.args.keys.now c.if-part-at-lt-STRIDE.false (sym c.has.ensures ∙ c.if-not-has.false) c.if-tally-ge-MOST_KEYS.false _ (c.read_span-c.ensures ∙ ap (operands 4) c.from.ensures) _ (in_good c.args.text.now.bytes.now _ (read_op c.args.part.now c.args.at 11 _ c.requires.at_in_bounds.0 c.requires.at_in_bounds.1 (c.read_span-c.ensures ∙ ap (operands 4) c.from.ensures)) c.if-text-c.false _ c.is_string.ensures) c.if-not-is_string.false _ (cut_text c.args.text.now.bytes.now _) _ c.is_known.ensures c.if-is_known.false) _ (c.read_span-c.ensures ∙ ap (operands 4) c.from.ensures) _ (c.digest-mark.ensures ∙ ap digest_of (cut_text c.args.text.now.bytes.now _)) c.push-2.ensures.counts_after c.push-2.ensures.last_after c.push.ensures
