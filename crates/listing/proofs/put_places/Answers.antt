use Rattle.std.proofs.Common.{refl}
use Rattle.emit.proofs.Outputs.{left_end}
use Rattle.options.proofs.Suppliers.{reaches}
use Rattle.listing.proofs.Steps.{roots_turn, out_turn, declarations_turn, options_turn}
use Rattle.listing.proofs.put_places.Goals as goal

pub put_roots-requires-clause-room : goal.put_roots-requires-clause-room
put_roots-requires-clause-room c = (roots_turn c.args.config.now c.args.out.now c.requires _ c.supplier.ensures).room

pub put_place-requires-clause-room : goal.put_place-requires-clause-room
put_place-requires-clause-room c =
    (out_turn c.args.config.now _ c.requires _ c.supplier.ensures c.put_roots.ensures _ c.supplier-out_dir.ensures).room

pub put_place-requires-2-clause-room : goal.put_place-requires-2-clause-room
put_place-requires-2-clause-room c =
    (declarations_turn c.args.config.now _ c.requires _ c.supplier.ensures c.put_roots.ensures _ c.supplier-out_dir.ensures c.put_place.ensures _ c.supplier-declarations.ensures).room

pub put_options-requires : goal.put_options-requires
put_options-requires c =
    let o = c.args.config.now in
    let t = options_turn c.args.config.now _ c.requires _ c.supplier.ensures c.put_roots.ensures _ c.supplier-out_dir.ensures c.put_place.ensures _ c.supplier-declarations.ensures _ c.put_place-2.ensures in
    record { reaches = reaches o.book.now o.row.now o.named; room = t.room }

pub returns : goal.returns
returns c =
    let t = options_turn c.args.config.now _ c.requires _ c.supplier.ensures c.put_roots.ensures _ c.supplier-out_dir.ensures c.put_place.ensures _ c.supplier-declarations.ensures _ c.put_place-2.ensures in
    left_end _ _ _ _ (t.left _ c.put_options.ensures) refl
