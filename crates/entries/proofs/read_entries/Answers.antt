use Rattle.std.proofs.Common.{ap, ◌∙◌, refl}
use Rattle.record.specs.declared.lists.Strings.{Strings}
use Rattle.entries.proofs.Going.{reading_start, reading_end, reading_room, reading_on}
use Rattle.entries.proofs.Dirs.{dir_is, dir_short, record_sound, strings_are, few_extends, entries_read}
use Rattle.entries.proofs.read_entries.Goals as goal

pub loop-s-init : goal.loop-s-init
loop-s-init c =
    let b = c.args.checked.now in
    let own = c.record_at.ensures in
    let items = c.strings-s-items.ensures in
    let begun = c.into_iter-s-iterator.ensures.into_iter_gives in
    reading_start b _ _ _ _ (strings_are b c.args.c c.requires _ own.at own.commands own.text _ (ap (λ (it : Strings 512). it.place) begun ∙ items.place) _ (ap (λ (it : Strings 512). it.op) begun ∙ items.op))
    (few_extends _ _ (record_sound b c.args.c c.requires)) refl

pub read_entry-requires : goal.read_entry-requires
read_entry-requires c = (dir_short c.args.checked.now c.args.c c.requires _ c.record_dir-dir.ensures, c.in-Some.ensures.steps.short)

pub bounds-all-count : goal.bounds-all-count
bounds-all-count c = reading_room _ _ _ _ _ _ c.loop-s.invariant c.in-Some.ensures.steps.first

pub loop-s-preserved : goal.loop-s-preserved
loop-s-preserved c = reading_on _ _ _ _ _ _ c.loop-s.invariant c.in-Some.ensures.steps.first c.read_entry.result c.read_entry.ensures

pub returns : goal.returns
returns c =
    let i = c.loop-s.invariant in
    entries_read c.args.checked.now c.args.c c.requires _ (dir_is c.args.checked.now c.args.c c.requires _ c.record_dir-dir.ensures) _ (reading_end _ _ _ _ _ _ i c.in-None.ensures.steps.first.0) i.inside
