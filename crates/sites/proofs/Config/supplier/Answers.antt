use Rattle.rows.proofs.Fields.{place_there}
use Rattle.sites.proofs.Config.supplier.Goals as goal

pub supplier-requires-clause-there : goal.supplier-requires-clause-there
supplier-requires-clause-there c = let s = c.args.self.now in place_there _ _ _ s.book.now.records _ s.named c.args.k c.requires
