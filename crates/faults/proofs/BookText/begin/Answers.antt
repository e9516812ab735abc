use mathlib.Core.Path.{sym, ◌∙◌}
use Rattle.std.proofs.Common.{true, false}
use Rattle.faults.proofs.Faults.{good_within, begin_other, begin_string, begin_many, begin_met}
use native.Mathlib.Omega.{arith}
use Rattle.book.specs.Rules.{text_of}
use Rattle.faults.proofs.BookText.begin.Goals as goal

pub returns-then-c-ne-BEGIN-clause-fault : goal.returns-then-c-ne-BEGIN-clause-fault
returns-then-c-ne-BEGIN-clause-fault c = begin_other _ _ _ c.args.c c.requires.byte c.if-c-ne-BEGIN.true

pub returns-then-not-is_good-clause-fault : goal.returns-then-not-is_good-clause-fault
returns-then-not-is_good-clause-fault c = begin_string _ _ _ c.args.c c.if-c-ne-BEGIN.false _ c.is_good.ensures c.if-not-is_good.true

pub returns-then-len-ge-MOST_RECORDS-clause-fault : goal.returns-then-len-ge-MOST_RECORDS-clause-fault
returns-then-len-ge-MOST_RECORDS-clause-fault c = begin_many _ _ _ c.args.c c.if-c-ne-BEGIN.false _ c.is_good.ensures c.if-not-is_good.false (omega (arith, c.if-len-ge-MOST_RECORDS.true, c.len.ensures))

pub admit-requires-clause-within : goal.admit-requires-clause-within
admit-requires-clause-within c = rw c.requires.same_text (good_within _ c.args.c (sym c.is_good.ensures ∙ c.if-not-is_good.false))

pub returns-then-not-admit-clause-fault : goal.returns-then-not-admit-clause-fault
unfolding text_of
returns-then-not-admit-clause-fault c = begin_met _ _ _ c.args.c c.if-c-ne-BEGIN.false _ c.is_good.ensures c.if-not-is_good.false (omega (arith, c.if-len-ge-MOST_RECORDS.false, c.len.ensures)) _ (rw c.requires.same_text at c.admit.ensures.admitted) false c.if-not-admit.true

pub returns-clause-fault : goal.returns-clause-fault
unfolding text_of
returns-clause-fault c = begin_met _ _ _ c.args.c c.if-c-ne-BEGIN.false _ c.is_good.ensures c.if-not-is_good.false (omega (arith, c.if-len-ge-MOST_RECORDS.false, c.len.ensures)) _ (rw c.requires.same_text at c.admit.ensures.admitted) true c.if-not-admit.false
