use Rattle.std.proofs.Common.{arith, sym, ap, ◌∙◌}
use Rattle.tsconfig_resolver.specs.Find.{reached}
use Rattle.records.proofs.Paths.{locate_within}
use Rattle.entries.proofs.Dirs.{few_records}
use Rattle.entries.proofs.Going.{entry_empty, entry_bare, entry_there}
use Rattle.entries.proofs.read_entry.Goals as goal

pub returns-in-empty : goal.returns-in-empty
returns-in-empty c = entry_empty _ _ _ (omega arith)

pub overflow_cast-result : goal.overflow_cast-result
overflow_cast-result c =
    let t = c.args.checked.now.book.paths in
    omega (arith, locate_within t.text.now t.rows.now _ _ (sym c.in-Some.is ∙ c.find_meant.ensures), few_records c.args.checked.now)

pub returns-in-Some : goal.returns-in-Some
returns-in-Some c = ap reached (sym c.in-Some.is) ∙ entry_there _ c.args.dir.now c.args.s.now (omega arith) (omega arith) (omega arith) _ c.find_meant.ensures

pub returns-in-None : goal.returns-in-None
returns-in-None c = ap reached (sym c.in-None.is) ∙ entry_there _ c.args.dir.now c.args.s.now (omega arith) (omega arith) (omega arith) _ c.find_meant.ensures

pub returns-in_default : goal.returns-in_default
returns-in_default c = entry_bare _ c.args.dir.now c.args.s.now (omega arith) (omega arith) (omega arith)

pub returns-in_default-2 : goal.returns-in_default-2
returns-in_default-2 c = entry_bare _ c.args.dir.now c.args.s.now (omega arith) (omega arith) (omega arith)
