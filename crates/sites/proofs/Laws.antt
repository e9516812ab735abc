-- The directory and the base of a row's config, from the records that stand at its places. Assumes nothing.
use mathlib.Core.Path.{◌≡◌, sym, ap, ap₂, ◌∙◌}
use mathlib.Core.List.{List}
use Prim.Native.Nat.{ℕ}
use native.Mathlib.Omega.{arith}
use Rattle.text.specs.Bytes.{Text}
use Rattle.std.specs.Prelude.{Some, None}
use Rattle.ends.specs.Ends.{parent_of}
use Rattle.book.specs.Record.{record_path_of, single}
use Rattle.book.specs.Command as command
use Rattle.tsconfig.specs.Parsed.{own_base}
use Rattle.tsconfig.specs.Build.{substituted}
use Rattle.record.specs.Read.{read}
use Rattle.record.specs.Lists.{Record}
use Rattle.rows.specs.Rows.{base_place, own_place, begin_at, site_of, Row}
use Rattle.rows.specs.Checked.{records_in}
use Rattle.rows.specs.declared.Book.{Book}
use Rattle.sites.specs.Configs.{site_at}
use Rattle.sites.specs.Sites.{site_in}
use Rattle.sites.specs.declared.Config.{Config}
use Rattle.rows.proofs.Fields.{found_rec, found_none, site_path, site_base}

-- the config of a row is that of the row's site
pub site_is : (c : Config) (b : Book) (row : List ℕ) → c.book.now ≡ b → c.row.now ≡ row → site_in c ≡ site_at b row
site_is c b row e f = ap₂ site_at e f

module _ (b : Book) (row : List ℕ) (w : Row (records_in b) row) where
  pub own_there : {X : Type 0} → None ≡ begin_at b.paths.rows.now row own_place → X
  own_there e = absurd (omega (arith, found_none b.paths.rows.now row own_place e, w.own, b.records.few))

  pub base_there : {X : Type 0} → None ≡ begin_at b.paths.rows.now row base_place → X
  base_there e = absurd (omega (arith, found_none b.paths.rows.now row base_place e, w.base, b.records.few))

  module _ (r : Record) (c : r.commands.now ≡ b.commands.now) (t : r.text.now ≡ b.paths.text.now) where
    pub dir_is : Some r.at ≡ begin_at b.paths.rows.now row own_place → parent_of (record_path_of r.text.now (read r.commands.now r.at)) ≡ parent_of (site_of (records_in b) row).path
    dir_is e =
        rw (c, t, found_rec b.paths.rows.now row own_place r.at e)
        (ap parent_of (sym (site_path b.commands.now b.paths.text.now b.paths.rows.now b.records row w)))

    pub base_is :
        Some r.at ≡ begin_at b.paths.rows.now row base_place → (dir : Text) → dir ≡ parent_of (site_of (records_in b) row).path →
        substituted dir (own_base (parent_of (record_path_of r.text.now (read r.commands.now r.at))) (single r.text.now command.base_url (read r.commands.now r.at))) ≡ (site_of (records_in b) row).config.base
    base_is e dir d =
        rw (c, t, found_rec b.paths.rows.now row base_place r.at e)
        (sym (site_base b.commands.now b.paths.text.now b.paths.rows.now b.records row w dir (d ∙ ap parent_of (site_path b.commands.now b.paths.text.now b.paths.rows.now b.records row w))))
