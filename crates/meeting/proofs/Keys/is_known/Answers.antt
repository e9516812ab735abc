use mathlib.Core.Path.{sym, ap, ◌∙◌}
use mathlib.Core.List.{map}
use Rattle.book.specs.declared.Seen.{Seen}
use Rattle.meeting.proofs.Marks.{marks_as_std, unmarked}
use Rattle.meeting.proofs.Keys.is_known.Goals as goal

pub returns-else-contains : goal.returns-else-contains
returns-else-contains c =
    c.if-contains.false
    ∙ sym (unmarked c.args.s.now c.args.text.now c.args.mark c.requires.mark_value c.args.self.now c.requires.seen _ _ (c.self.invariant.1 ∙ ap (map (λ (r : Seen). r.mark)) c.self.view_is) (sym (marks_as_std c.args.mark _) ∙ (sym c.contains.ensures.value ∙ c.if-contains.false)))
