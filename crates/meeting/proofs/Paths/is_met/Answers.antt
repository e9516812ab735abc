use Rattle.std.proofs.Common.{sym, ap, ◌∙◌, false, get_or, ℕ}
use Rattle.meeting.proofs.Keeping.{files_same, unnoted}
use Rattle.meeting.proofs.Paths.is_met.Goals as goal

pub returns-then-self-from : goal.returns-then-self-from
returns-then-self-from c =
    let f = c.requires.files c.if-are_files.true in
    rw (← c.self.view_is) (c.is_known.ensures ∙ files_same _ _ c.args.s.now (rw (← c.self.view_is) at f))

pub returns-else-self-from : goal.returns-else-self-from
returns-else-self-from c =
    let f = c.requires.files c.if-are_files.true in
    let none = unnoted c.self.invariant.1 c.args.s.now c.args.mark c.requires.mark_value (ap (λ (i : ℕ). get_or c.self.inside.noted i false) (sym c.from.ensures) ∙ c.if-self-from.false) in
    rw (← c.self.view_is) (c.if-self-from.false ∙ sym none ∙ files_same _ _ c.args.s.now (rw (← c.self.view_is) at f))
