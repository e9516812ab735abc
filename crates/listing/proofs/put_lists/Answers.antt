use Rattle.std.proofs.Common.{refl}
use Rattle.emit.proofs.Outputs.{left_end}
use Rattle.listing.proofs.Steps.{files_turn, include_turn, exclude_turn, url_turn}
use Rattle.listing.proofs.put_lists.Goals as goal

pub put_list-requires-clause-room : goal.put_list-requires-clause-room
put_list-requires-clause-room c = (files_turn c.args.config.now c.args.out.now c.requires _ c.supplier.ensures).room

pub put_list-requires-2-clause-room : goal.put_list-requires-2-clause-room
put_list-requires-2-clause-room c =
    (include_turn c.args.config.now _ c.requires _ c.supplier.ensures c.put_list.ensures _ c.supplier-include.ensures).room

pub put_list-requires-3-clause-room : goal.put_list-requires-3-clause-room
put_list-requires-3-clause-room c =
    (exclude_turn c.args.config.now _ c.requires _ c.supplier.ensures c.put_list.ensures _ c.supplier-include.ensures c.put_list-2.ensures _ c.supplier-exclude.ensures).room

pub put_url-requires-clause-room : goal.put_url-requires-clause-room
put_url-requires-clause-room c =
    (url_turn c.args.config.now _ c.requires _ c.supplier.ensures c.put_list.ensures _ c.supplier-include.ensures c.put_list-2.ensures _ c.supplier-exclude.ensures c.put_list-3.ensures _ c.supplier-2.ensures).room

pub returns : goal.returns
returns c =
    let t = url_turn c.args.config.now _ c.requires _ c.supplier.ensures c.put_list.ensures _ c.supplier-include.ensures c.put_list-2.ensures _ c.supplier-exclude.ensures c.put_list-3.ensures _ c.supplier-2.ensures in
    left_end _ _ _ _ (t.left _ c.put_url.ensures) refl
