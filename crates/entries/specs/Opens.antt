-- What is told of a record that is opened.
use Rattle.std.specs.Prelude.{ℕ, ◌≡◌, List}
use Rattle.std.specs.Prelude.{Some, None}
use Rattle.book.specs.Refusals.{number_of}
use Rattle.book.specs.declared.Refusal.{Refusal}
use Rattle.tsconfig.specs.Parsed.{Parsed}
use Rattle.tsconfig_resolver.specs.Load.{unread}
use Rattle.tsconfig_resolver.specs.Find.{seen}
use Rattle.rows.specs.Rows.{number_of as row_number, config_of, Row}
use Rattle.entries.specs.Entries.{EntriesOf}
use Rattle.entries.specs.declared.lists.Opened.{Opened}

-- the record c with its entries and its own row; no entry is refused as it is read
pub record OpenedAs (rs : List Parsed) (c : ℕ) (o : Opened) : Type 0 where
  pub read : unread ((seen rs).entries c) ≡ None
  pub entries : EntriesOf rs c o.entries
  pub config : config_of rs o.row ≡ (seen rs).own c
  pub row : Row rs o.row
  pub own : row_number o.row ≡ c

-- an entry of the record c is refused as it is read
pub record RefusedAs (rs : List Parsed) (c : ℕ) (r : Refusal) : Type 0 where
  pub why : unread ((seen rs).entries c) ≡ Some (number_of r.fault)
  pub place : r.place ≡ c
