use Rattle.std.proofs.Common.{◌∙◌, sym}
use Rattle.records.proofs.Paths.{locate_within}
use Rattle.entries.proofs.Dirs.{dir_is, dir_short, meant_is}
use Rattle.references.proofs.Refers.{meant_nothing, meant_told}
use Rattle.references.proofs.refer_to.Goals as goal

pub returns-in_default : goal.returns-in_default
returns-in_default c =
    let a = c.args in
    record { told = meant_nothing a.loads.now a.c a.s.now _ (c.find_meant.ensures ∙ meant_is a.loads.now.checked.now a.c c.requires.0.inside _ (dir_is a.loads.now.checked.now a.c c.requires.0.inside _ c.record_dir-dir.ensures) a.s.now) c.in_default.is }

pub find_meant-requires : goal.find_meant-requires
find_meant-requires c = let a = c.args in (dir_short a.loads.now.checked.now a.c c.requires.0.inside _ c.record_dir-dir.ensures, c.requires.1)

pub refer-requires : goal.refer-requires
refer-requires c =
    let t = c.args.loads.now.checked.now.book.paths in
    let p = c.requires.0 in
    record { table = p.table; inside = locate_within t.text.now t.rows.now _ _ (sym c.in-Some.is ∙ c.find_meant.ensures); few = p.few }

pub returns : goal.returns
returns c =
    let a = c.args in
    meant_told a.loads.now a.c a.s.now _ (c.find_meant.ensures ∙ meant_is a.loads.now.checked.now a.c c.requires.0.inside _ (dir_is a.loads.now.checked.now a.c c.requires.0.inside _ c.record_dir-dir.ensures) a.s.now) _ c.in-Some.is _ _ _ c.refer.ensures
