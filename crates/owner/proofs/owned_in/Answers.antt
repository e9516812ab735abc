use Rattle.owner.proofs.Walks.{folder_none, folder_inside, folder_found}
use Rattle.owner.proofs.owned_in.Goals as goal

pub owned_by_record-requires : goal.owned_by_record-requires
owned_by_record-requires c = let a = c.args in folder_inside a.checked.now a.path.now a.folder.now _ c.config_in.ensures _ c.in-Some.is

pub returns-in-Some : goal.returns-in-Some
returns-in-Some c = let a = c.args in folder_found a.checked.now a.path.now a.folder.now _ c.config_in.ensures _ c.in-Some.is _ c.owned_by_record.ensures

pub returns-in-None : goal.returns-in-None
returns-in-None c = let a = c.args in folder_none a.checked.now a.path.now a.folder.now _ c.config_in.ensures c.in-None.is
