use mathlib.Core.Path.{refl}
use Rattle.checker.proofs.Books.{booked_none, booked_end, booked_on, size_commands, size_text}
use Rattle.checker.proofs.check_book.Goals.{then-commands-gt-MOST_COMMANDS-via-then-commands-gt-MOST_COMMANDS, then-commands-gt-MOST_COMMANDS-via-else-commands-gt-MOST_COMMANDS+then-text-gt-MOST_TEXT}
use borrow.Author.Rules.{rules}
use Rattle.checker.proofs.check_book.Goals as goal

pub returns-then-commands-gt-MOST_COMMANDS : goal.returns-then-commands-gt-MOST_COMMANDS
returns-then-commands-gt-MOST_COMMANDS c =
    elim c.then-commands-gt-MOST_COMMANDS.branch [
      | then-commands-gt-MOST_COMMANDS-via-then-commands-gt-MOST_COMMANDS w ↦ size_commands _ _ w.if-commands-gt-MOST_COMMANDS.true
      | then-commands-gt-MOST_COMMANDS-via-else-commands-gt-MOST_COMMANDS+then-text-gt-MOST_TEXT w ↦ size_text _ _ w.if-commands-gt-MOST_COMMANDS.false w.if-text-gt-MOST_TEXT.true
    ]

pub loop-at-init : goal.loop-at-init
loop-at-init c = rw c.new-paths.ensures (refl, booked_none _ _ c.if-commands-gt-MOST_COMMANDS.false c.if-text-gt-MOST_TEXT.false _ (search rules))

pub loop-at-preserved : goal.loop-at-preserved
loop-at-preserved c =
    let checked = rw c.known_text-book.ensures at c.check_record.ensures.checked in
    rw (c.in_ok-c.ensures.rows_after, c.len-n.ensures.count, c.known_text-book.ensures)
    (c.loop-at.invariant.0, booked_on _ _ c.loop-at.invariant.1 _ c.from.ensures _ checked _ c.in_ok-c.was _ refl)

pub returns : goal.returns
returns c = rw c.len.ensures.count (booked_end _ _ c.loop-at.invariant.1 c.loop-at-test.false)
