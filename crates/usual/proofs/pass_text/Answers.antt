use mathlib.Core.Path.{◌≡◌, sym, ap, ◌∙◌}
use mathlib.Core.Bool.{true}
use native.Mathlib.Omega.{arith}
use Prim.Native.Nat.{ℕ, ◌+◌, ◌-◌}
use Rattle.strings.specs.Strings.{plain_byte, string_rule}
use lib.ListN.{take, drop}
use Rattle.faults.proofs.Keeps.{each_part}
use Rattle.usual.specs.Usual.{still}
use Rattle.usual.proofs.Passing.{once_taken}
use Rattle.usual.proofs.Flags.{text_on}
use Rattle.usual.proofs.pass_text.Goals as goal

pub returns-then-part-at-lt-TEXT_STRIDE : goal.returns-then-part-at-lt-TEXT_STRIDE
returns-then-part-at-lt-TEXT_STRIDE c = still

pub is_string-requires : goal.is_string-requires
is_string-requires c = λ e. each_part plain_byte c.args.text.now.bytes.now c.word_at-start.result (c.word_at-start.result + c.word_at-len.result - c.word_at-start.result) (c.args.text.now.known_plain e)

pub returns-then-text-start : goal.returns-then-text-start
returns-then-text-start c = still

pub returns : goal.returns
returns c =
    let a = c.args in
    let o = c.pass_once.ensures in
    let start = c.word_at-start.result in
    let len = c.word_at-len.result in
    let cut : start + len - start ≡ len = omega arith in
    let string : string_rule (take len (drop start a.text.now.bytes.now)) ≡ true = ap (λ (k : ℕ). string_rule (take k (drop start a.text.now.bytes.now))) (sym cut) ∙ sym c.is_string.ensures ∙ c.if-not-is_string.false in
    once_taken a.part.now a.text.now.bytes.now a.tally.now.counts a.tally.now.last a.at _ _ o.counts_after _ _ o.last_after _ _ o.value
    (text_on a.part.now a.at c.requires.at_in_bounds.1 (omega arith) (omega arith) a.text.now.bytes.now start len c.word_at-start.ensures c.word_at-len.ensures a.tally.now.counts a.tally.now.last _
    (ap (λ (i : ℕ). 32 + i) c.from-k.ensures) c.requires.begun (omega arith) string)
