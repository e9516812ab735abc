use Rattle.std.proofs.Common.{refl, rules}
use Rattle.replies.proofs.Replies.{answered_refused, fit_short, answered_given, written_first, scratch_copied}
use Rattle.replies.proofs.write_reply.Goals as goal

pub returns-then-out-need : goal.returns-then-out-need
returns-then-out-need g c = λ answer writes.
    let a = c.args in
    let put = writes _ _ _ c.new-counted.ensures.at c.write-first.ensures in
    let counted = written_first _ a.scratch.now _ _ c.new-counted.ensures.bytes c.new-counted.ensures.at put.puts in
    answered_refused _ _ _ (fit_short answer a.out.now _ _ _ counted c.if-out-need.true)

pub returns-then-need-counted : goal.returns-then-need-counted
returns-then-need-counted g c = λ answer writes.
    let a = c.args in
    let put = writes _ _ _ c.new-counted.ensures.at c.write-first.ensures in
    let counted = written_first _ a.scratch.now _ _ c.new-counted.ensures.bytes c.new-counted.ensures.at put.puts in
    let copied = scratch_copied _ _ _ _ counted c.if-need-counted.true _ _ _ _ c.text.ensures c.copy_out-bytes.ensures in
    answered_given answer a.out.now _ _ _ counted c.if-out-need.false _ _ copied _ put.first put.second refl

pub returns : goal.returns
returns g c = λ answer writes.
    let a = c.args in
    let put = writes _ _ _ c.new-counted.ensures.at c.write-first.ensures in
    let counted = written_first _ a.scratch.now _ _ c.new-counted.ensures.bytes c.new-counted.ensures.at put.puts in
    let again = writes _ _ _ c.new-answer.ensures.at c.write-first-2.ensures in
    let wrote = written_first _ a.out.now _ _ c.new-answer.ensures.bytes c.new-answer.ensures.at again.puts in
    answered_given answer a.out.now _ _ _ counted c.if-out-need.false _ _ (search (rules, wrote)) _ again.first again.second refl
