use Rattle.records.specs.Tables.{paths_in}
use Rattle.records.proofs.Paths.{locate_own, locate_dir, locate_json}
use Rattle.records.proofs.PathTable.locate.Goals as goal

pub returns-in-Some : goal.returns-in-Some
returns-in-Some c = locate_own (paths_in c.args.self.now) c.args.p.now _ c.find.ensures _ c.in-Some.is

pub returns-in-None : goal.returns-in-None
returns-in-None c = locate_dir (paths_in c.args.self.now) c.args.p.now _ c.find.ensures c.in-None.is _ c.is_dir.ensures c.if-is_dir.true _ c.config_in.ensures

pub returns-in-None-2 : goal.returns-in-None-2
returns-in-None-2 c = locate_json (paths_in c.args.self.now) c.args.p.now _ c.find.ensures c.in-None.is _ c.is_dir.ensures c.if-is_dir.false _ c.find_joined.ensures
