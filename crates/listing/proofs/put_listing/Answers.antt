use Rattle.std.proofs.Common.{arith}
use Rattle.listing.proofs.Whole.{own_there}
use Rattle.listing.proofs.Steps.{lists_turn, base_turn, paths_turn, references_turn, places_turn, listing_done}
use Rattle.listing.proofs.put_listing.Goals as goal

pub returns-in_default : goal.returns-in_default
returns-in_default c = let o = c.args.built.now.config in own_there o.book.now o.row.now o.named c.in_default.ensures.at

pub put_lists-requires : goal.put_lists-requires
put_lists-requires c = let b = c.args.built.now in (lists_turn b.config c.args.out.now _ b.value b.short c.requires _ c.in-Some.ensures).room

pub put_row-requires : goal.put_row-requires
put_row-requires c = let b = c.args.built.now in (base_turn b.config _ _ b.value b.short c.requires _ c.in-Some.ensures c.put_lists.ensures).room

pub put_mapping-requires-clause-room : goal.put_mapping-requires-clause-room
put_mapping-requires-clause-room c =
    let b = c.args.built.now in
    (paths_turn b.config _ _ b.value b.short c.requires _ c.in-Some.ensures c.put_lists.ensures c.put_row.ensures _ c.supplier-2.ensures).room

pub put_references-requires : goal.put_references-requires
put_references-requires c =
    let b = c.args.built.now in
    (omega arith, (references_turn b.config _ _ b.value b.short c.requires _ c.in-Some.ensures c.put_lists.ensures c.put_row.ensures _ c.supplier-2.ensures c.put_mapping.ensures).room)

pub put_places-requires : goal.put_places-requires
put_places-requires c =
    let b = c.args.built.now in
    (places_turn b.config _ _ b.value b.short c.requires _ c.in-Some.ensures c.put_lists.ensures c.put_row.ensures _ c.supplier-2.ensures c.put_mapping.ensures c.put_references.ensures).room

pub returns : goal.returns
returns c =
    let b = c.args.built.now in
    listing_done b.config _ _ b.value b.short c.requires _ c.in-Some.ensures c.put_lists.ensures c.put_row.ensures _ c.supplier-2.ensures c.put_mapping.ensures c.put_references.ensures _ c.put_places.ensures
