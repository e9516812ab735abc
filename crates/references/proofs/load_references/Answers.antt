use Rattle.std.proofs.Common.{ap, ◌∙◌, arith}
use Rattle.std.proofs.lemmas.Result.{err_from_is_err_and}
use Rattle.record.specs.declared.lists.Strings.{Strings}
use Rattle.entries.proofs.Dirs.{strings_are}
use Rattle.references.proofs.Refers.{referring_start, referring_end, referring_room, referring_next, referring_refused, referring_on}
use Rattle.references.proofs.load_references.Goals as goal

pub loop-s-init : goal.loop-s-init
loop-s-init c =
    let a = c.args in
    let own = c.record_at.ensures in
    let items = c.strings-s-items.ensures in
    let begun = c.into_iter-s-iterator.ensures.into_iter_gives in
    referring_start a.loads.now a.c c.requires.0.inside a.refs.now (omega arith) c.requires.0.table c.requires.1 _
    (strings_are a.loads.now.checked.now a.c c.requires.0.inside c.record_at.result own.at own.commands own.text _ (ap (λ (it : Strings 512). it.place) begun ∙ items.place) _ (ap (λ (it : Strings 512). it.op) begun ∙ items.op))

pub refer_to-requires : goal.refer_to-requires
refer_to-requires c = (referring_next _ _ c.requires.0.inside _ _ _ _ c.loop-s.invariant c.in-Some.ensures.steps.first, c.in-Some.ensures.steps.short)

pub returns-in_err-refs : goal.returns-in_err-refs
returns-in_err-refs c =
    let p = err_from_is_err_and c.from_residual.result c.from_residual.ensures.1 in
    rw (p.1, p.2) (record { told = referring_refused _ _ c.requires.0.inside _ _ _ _ c.loop-s.invariant c.in-Some.ensures.steps.first _ _ c.refer_to.ensures _ c.in_err-refs.was })

pub bounds-refs-count : goal.bounds-refs-count
bounds-refs-count c = referring_room _ _ c.requires.0.inside _ _ _ _ c.loop-s.invariant c.in-Some.ensures.steps.first

pub loop-s-preserved : goal.loop-s-preserved
loop-s-preserved c = referring_on _ _ c.requires.0.inside _ _ _ _ c.loop-s.invariant c.in-Some.ensures.steps.first _ _ c.refer_to.ensures _ c.in_ok-refs.was

pub returns : goal.returns
returns c = record { told = referring_end _ _ c.requires.0.inside _ _ _ _ c.loop-s.invariant c.in-None.ensures.steps.first.0 }
