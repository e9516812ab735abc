-- A row of a book's records as a config, and what supplies its fields.
use Rattle.std.specs.Prelude.{ℕ, ◌≡◌, List, Option, option_map, IfSome}
use Rattle.record.specs.Lists.{Record}
use Rattle.tsconfig.specs.Claims.{Site}
use Rattle.rows.specs.Rows.{site_of, begin_at}
use Rattle.rows.specs.Checked.{records_in}
use Rattle.rows.specs.declared.Book.{Book}

-- the config that a row of a book's records says, built at the path of its record
abbrev pub site_at : Book → List ℕ → Site
site_at book row = site_of (records_in book) row

-- x is the record that stands at the place of the row, if there is one
pub record Supplied (book : Book) (row : List ℕ) (k : ℕ) (x : Option Record) : Type 0 where
  pub at : option_map (λ r. r.at) x ≡ begin_at book.paths.rows.now row k
  pub commands : IfSome x (λ r. r.commands.now ≡ book.commands.now)
  pub text : IfSome x (λ r. r.text.now ≡ book.paths.text.now)
