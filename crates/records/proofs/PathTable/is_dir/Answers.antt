use Rattle.std.proofs.Common.{◌∙◌}
use Rattle.records.specs.Tables.{paths_in}
use Rattle.records.proofs.Paths.{dir_relative, dir_inside}
use Rattle.records.proofs.PathTable.is_dir.Goals as goal

pub returns-then-is_absolute : goal.returns-then-is_absolute
returns-then-is_absolute c = dir_inside (paths_in c.args.self.now) c.args.p.now _ c.is_absolute.ensures c.if-is_absolute.true _ c.wants_slash.ensures _ c.is_some_inside.ensures

pub returns-else-is_absolute : goal.returns-else-is_absolute
returns-else-is_absolute c = c.if-is_absolute.false ∙ dir_relative (paths_in c.args.self.now) c.args.p.now _ c.is_absolute.ensures c.if-is_absolute.false
