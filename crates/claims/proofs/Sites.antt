-- What the config of a row says once it is built, of what the test reads. Assumes nothing.
use Rattle.book.specs.Index.{begin_of}
use mathlib.Core.Path.{◌≡◌, refl, sym, ap, ◌∙◌}
use mathlib.Core.List.{List, map}
use mathlib.Core.Bool.{Bool, true, false, not, ◌&&◌, true≢false}
use Rattle.std.proofs.lemmas.Iterator.Adapters.{option_map_id}
use Rattle.std.specs.Prelude.{Some, None, option_map}
use Prim.Native.Nat.{ℕ}
use Rattle.text.specs.Bytes.{Text}
use Rattle.text.specs.Text.{some_of}
use Rattle.ends.specs.Ends.{parent_of}
use Rattle.path.specs.Path.{is_some}
use Rattle.text.proofs.Picks.{by_test}
use Rattle.book.specs.declared.Cmd.{Cmd}
use Rattle.book.specs.Record.{is, strings, listed, flag_of}
use Rattle.items.proofs.Reading.{listed_is, listed_not}
use Rattle.record.specs.Read.{read}
use Rattle.record.specs.Lists.{Record}
use Rattle.tsconfig.specs.Config.{Field, files, include, exclude, flag}
use Rattle.tsconfig.specs.Parsed.{said}
use Rattle.tsconfig.specs.Build.{adjusted, built_value}
use Rattle.tsconfig.specs.Claims.{Site}
use Rattle.rows.specs.Rows.{Row, slot, supplier, number_of, begin_at}
use Rattle.rows.specs.Records.{dir_of}
use Rattle.rows.specs.Checked.{records_in}
use Rattle.rows.specs.declared.Book.{Book}
use Rattle.rows.proofs.Fields.{plain, map_plain, found_place, found_rec, record_says, supplier_there, site_path, site_none, site_plain}
use Rattle.sites.specs.Sites.{site_in}
use Rattle.sites.specs.declared.Config.{Config}

-- a list that is there
list_there : (text : Text) (r : List Cmd) (mark item : ℕ) → is_some (listed text mark item r) ≡ true → listed text mark item r ≡ Some (strings text item r)
unfolding is_some
list_there text r mark item e =
    by_test (some_of (is mark) r) (λ t. listed_is text r mark item t)
    (λ f. absurd (true≢false (sym e ∙ ap is_some (listed_not text r mark item f))))

module _ (config : Config) where
  abbrev b : Book
  b = config.book.now

  abbrev row : List ℕ
  row = config.row.now

  abbrev w : Row (records_in b) row
  w = config.named

  abbrev site : Site
  site = site_in config

  -- the built config's directory
  abbrev dir : Text
  dir = parent_of site.path

  dir_of_own : dir ≡ dir_of b.paths.text.now (read b.commands.now (begin_of b.paths.rows.now (number_of row)))
  dir_of_own = ap parent_of (site_path b.commands.now b.paths.text.now b.paths.rows.now b.records row w)

  pub field_none : (f : Field) → None ≡ begin_at b.paths.rows.now row (slot f) → site.config.named f ≡ None
  field_none f e = site_none b.commands.now b.paths.text.now b.paths.rows.now b.records row w dir dir_of_own site.config.base refl f e

  -- A field, at the record that supplies it

  module _ (r : Record) (c : r.commands.now ≡ b.commands.now) (t : r.text.now ≡ b.paths.text.now) where
    module _ (f : Field) (p : plain f ≡ true) (e : Some r.at ≡ begin_at b.paths.rows.now row (slot f)) where
      field_said : is_some (said r.text.now (read r.commands.now r.at) f) ≡ true
      field_said =
          let n = found_place b.paths.rows.now row (slot f) r.at e in
          let i = supplier row f in
          let own = read b.commands.now (begin_of b.paths.rows.now i) in
          let y = record_says b.commands.now b.paths.text.now b.paths.rows.now b.records i (supplier_there b.commands.now b.paths.text.now b.paths.rows.now b.records row w f n) f ∙ map_plain (dir_of b.paths.text.now own) f p (said b.paths.text.now own f) in
          rw (c, t, found_rec b.paths.rows.now row (slot f) r.at e) (ap is_some (sym y) ∙ w.named f n)

      field_some : site.config.named f ≡ option_map (built_value dir site.config.base f) (said r.text.now (read r.commands.now r.at) f)
      field_some = rw (c, t) (site_plain b.commands.now b.paths.text.now b.paths.rows.now b.records row w dir dir_of_own site.config.base refl f p r.at e)

    -- its strings, built in the directory
    abbrev built : ℕ → List Text
    built op = map (adjusted dir dir) (strings r.text.now op (read r.commands.now r.at))

    pub files_some : Some r.at ≡ begin_at b.paths.rows.now row 0 → site.config.named files ≡ Some (built 3)
    unfolding slot plain said built_value
    files_some e = field_some files refl e ∙ rw (list_there r.text.now (read r.commands.now r.at) 2 3 (field_said files refl e))

    pub include_some : Some r.at ≡ begin_at b.paths.rows.now row 1 → site.config.named include ≡ Some (built 5)
    unfolding slot plain said built_value
    include_some e = field_some include refl e ∙ rw (list_there r.text.now (read r.commands.now r.at) 4 5 (field_said include refl e))

    pub exclude_some : Some r.at ≡ begin_at b.paths.rows.now row 2 → site.config.named exclude ≡ Some (built 7)
    unfolding slot plain said built_value
    exclude_some e = field_some exclude refl e ∙ rw (list_there r.text.now (read r.commands.now r.at) 6 7 (field_said exclude refl e))

    pub flag_some : Some r.at ≡ begin_at b.paths.rows.now row 16 → site.config.named (flag 8) ≡ flag_of 8 (read r.commands.now r.at)
    unfolding slot plain said built_value
    flag_some e = field_some (flag 8) refl e ∙ option_map_id (flag_of 8 (read r.commands.now r.at))

-- What include takes in, and exclude leaves

pub kept : (o i x v : Bool) → v ≡ (not o && i) → v ≡ true → not x ≡ (not o && (i && not x))
kept false true x v e t = refl
kept false false x v e t = absurd (true≢false (sym t ∙ e))
kept true i x v e t = absurd (true≢false (sym t ∙ e))

pub not_kept : (o i x v : Bool) → v ≡ (not o && i) → v ≡ false → v ≡ (not o && (i && not x))
not_kept false true x v e f = absurd (true≢false (sym e ∙ f))
not_kept false false x v e f = f
not_kept true i x v e f = f
