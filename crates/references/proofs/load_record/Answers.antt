use Rattle.std.proofs.lemmas.Result.{err_from_is_err_and}
use Rattle.references.proofs.Refers.{whole_refused, whole_reference, whole_done, record_load, record_references}
use Rattle.references.proofs.load_record.Goals as goal

pub load-requires : goal.load-requires
load-requires c = record_load c.args.checked c.args.c c.requires

pub returns-in_err-row : goal.returns-in_err-row
returns-in_err-row c =
    let p = err_from_is_err_and c.from_residual.result c.from_residual.ensures.1 in
    rw (p.1, p.2) (whole_refused c.args.checked c.args.c _ _ c.load.ensures.told _ c.in_err-row.was)

pub load_references-requires : goal.load_references-requires
load_references-requires c = record_references c.args.checked c.args.c _ _ c.load.ensures.told _ c.in_ok-row.was c.requires

pub returns-in_err-count : goal.returns-in_err-count
returns-in_err-count c =
    let p = err_from_is_err_and c.from_residual-in_err-count.result c.from_residual-in_err-count.ensures.1 in
    rw (p.1, p.2) (whole_reference c.args.checked c.args.c _ _ c.load.ensures.told _ c.in_ok-row.was _ _ c.load_references.ensures _ c.in_err-count.was)

pub returns : goal.returns
returns c = whole_done c.args.checked c.args.c _ _ c.load.ensures.told _ c.in_ok-row.was _ _ c.load_references.ensures _ c.in_ok-count.was
