-- The value of a field, read at its supplier, and what a built config's fields, base and directory are. Assumes nothing.
use mathlib.Core.Path.{◌≡◌, refl, sym, ap, ap₂, subst, ◌∙◌}
use mathlib.Core.List.{List}
use mathlib.Core.Bool.{Bool, true, false, true≢false}
use Rattle.std.specs.Prelude.{Option, Some, None, option_map}
use Prim.Native.Nat.{ℕ, zero, suc, ◌+◌, ◌-◌, ◌<◌}
use native.Mathlib.Omega.{arith}
use lib.Dec.{eqb, ltb}
use lib.ListN.{length, get_or, get_or-eq_default}
use borrow.Author.Tests.{eqb-true, eqb-false, eq-eqb, ne_eqb, lt-ltb, ltb-true, ltb-false}
use Rattle.text.specs.Bytes.{Text}
use Rattle.ends.specs.Ends.{parent_of}
use Rattle.text.proofs.Picks.{by_test}
use Rattle.book.specs.Command as command
use Rattle.book.specs.Record.{record_path_of, single, strings}
use Rattle.book.specs.Index as index
use Rattle.book.specs.Sound.{Sound}
use Rattle.tsconfig.specs.Config.{Field, files, include, exclude, base_url, paths, root_dirs, out_dir, declaration_dir, flag, text, mapped}
use Rattle.tsconfig.specs.Parsed.{Value, Parsed, parsed, parse, said, placed_value, own_base}
use Rattle.tsconfig.specs.Build.{built, built_value, substituted}
use Rattle.tsconfig_resolver.specs.Find.{Supplied, record_at, path_at, blank}
use Rattle.book.specs.Index.{begin_of}
use Rattle.book.specs.declared.IndexRow.{IndexRow}
use Rattle.rows.specs.Rows.{absent, slot, base_place, own_place, supplier, number_of, config_of, site_of, Row, begin_at}
use Rattle.text.specs.Text.{each_of}
use Rattle.record.specs.Read.{is_short, read}
use Rattle.record.proofs.Short.{good_short}
use Rattle.rows.specs.Records.{records_of, dir_of, said_at, Records}
use Rattle.rows.proofs.Configs.{there}

-- The places of fields

pub slot_of_flag : (id : ℕ) → id < 11 → slot (flag id) ≡ 8 + id
unfolding slot
slot_of_flag id h = rw (lt-ltb id 11 h) refl

pub slot_of_text : (id : ℕ) → id < 7 → slot (text id) ≡ 19 + id
unfolding slot
slot_of_text id h = rw (lt-ltb id 7 h) refl

-- each place before the base's is that of a field
pub field_of : {X : Type 0} (k : ℕ) → k < 26 → ((f : Field) → slot f ≡ k → X) → X
unfolding slot
field_of zero h g = g files refl
field_of (suc zero) h g = g include refl
field_of (suc (suc zero)) h g = g exclude refl
field_of (suc (suc (suc zero))) h g = g base_url refl
field_of (suc (suc (suc (suc zero)))) h g = g paths refl
field_of (suc (suc (suc (suc (suc zero))))) h g = g root_dirs refl
field_of (suc (suc (suc (suc (suc (suc zero)))))) h g = g out_dir refl
field_of (suc (suc (suc (suc (suc (suc (suc zero))))))) h g = g declaration_dir refl
field_of (suc (suc (suc (suc (suc (suc (suc (suc j)))))))) h g =
    by_test (ltb j 11)
    (λ y. g (flag j) (slot_of_flag j (ltb-true j 11 y) ∙ (let z : 8 + j ≡ suc (suc (suc (suc (suc (suc (suc (suc j))))))) = omega arith in z)))
    (λ y.
    let le = ltb-false j 11 y in
    g (text (j - 11)) (slot_of_text (j - 11) (omega (arith, h, le)) ∙ (let z : 19 + (j - 11) ≡ suc (suc (suc (suc (suc (suc (suc (suc j))))))) = omega (arith, le) in z)))

-- Fields that parsing leaves as they are

-- all but root dirs, outDir and declarationDir
unfoldable pub plain : Field → Bool
plain files = true
plain include = true
plain exclude = true
plain base_url = true
plain paths = true
plain root_dirs = false
plain out_dir = false
plain declaration_dir = false
plain (flag id) = true
plain (text id) = true

pub placed_plain : (dir : Text) (f : Field) → plain f ≡ true → (v : Value f) → placed_value dir f v ≡ v
unfolding plain placed_value
placed_plain dir files e v = refl
placed_plain dir include e v = refl
placed_plain dir exclude e v = refl
placed_plain dir base_url e v = refl
placed_plain dir paths e v = refl
placed_plain dir root_dirs e v = absurd (true≢false (sym e))
placed_plain dir out_dir e v = absurd (true≢false (sym e))
placed_plain dir declaration_dir e v = absurd (true≢false (sym e))
placed_plain dir (flag id) e v = refl
placed_plain dir (text id) e v = refl

map_same : {A : Type 0} (g : A → A) → ((a : A) → g a ≡ a) → (o : Option A) → option_map g o ≡ o
map_same g h None = refl
map_same g h (Some a) = ap Some (h a)

pub map_plain : (dir : Text) (f : Field) → plain f ≡ true → (o : Option (Value f)) → option_map (placed_value dir f) o ≡ o
map_plain dir f e o = map_same (placed_value dir f) (placed_plain dir f e) o

value_map : {A : Type 0} (c : ℕ) (o : Option A) → option_map (λ (v : Supplied A). v.value) (option_map (λ v. record { value = v; by = c }) o) ≡ o
value_map c None = refl
value_map c (Some a) = refl

no_at : {X : Type 0} {n : ℕ} → Some n ≡ None → X
no_at e = let z : ◌≡◌ {A = ℕ} 0 1 = cc in absurd (omega (arith, z))

-- where the record at a place begins
module _ (rows : List IndexRow) (row : List ℕ) (k : ℕ) where
  pub begin_is : (get_or row k absent ≡ absent → ⊥) → begin_at rows row k ≡ Some (begin_of rows (get_or row k absent))
  unfolding begin_at
  begin_is n = rw (ne_eqb (get_or row k absent) absent n) refl

  pub begin_not : get_or row k absent ≡ absent → begin_at rows row k ≡ None
  unfolding begin_at
  begin_not e = rw (eq-eqb (get_or row k absent) absent e) refl

  pub found_place : (rec : ℕ) → Some rec ≡ begin_at rows row k → (get_or row k absent ≡ absent → ⊥)
  found_place rec e z = no_at (e ∙ begin_not z)

  pub found_rec : (rec : ℕ) → Some rec ≡ begin_at rows row k → rec ≡ begin_of rows (get_or row k absent)
  found_rec rec e = let z : Some rec ≡ Some (begin_of rows (get_or row k absent)) = e ∙ begin_is (found_place rec e) in cc

  pub found_none : None ≡ begin_at rows row k → get_or row k absent ≡ absent
  found_none e =
      by_test (eqb (get_or row k absent) absent) (λ y. eqb-true (get_or row k absent) absent y)
      (λ y. no_at (sym (e ∙ begin_is (eqb-false (get_or row k absent) absent y))))

-- A record of the book

module _ (commands text : Text) (rows : List IndexRow) (b : Records commands text rows) (c : ℕ) (h : c < length (records_of commands text)) where
  pub record_path_lem : path_at (records_of commands text) c ≡ record_path_of text (index.record_at commands (begin_of rows c))
  unfolding parsed parse
  record_path_lem = ap (λ (p : Parsed). p.path) (b.reads c h)

  pub record_extended : (record_at (records_of commands text) c).extended ≡ strings text command.extends (index.record_at commands (begin_of rows c))
  unfolding parsed parse
  record_extended = ap (λ (p : Parsed). p.extended) (b.reads c h)

  pub record_references : (record_at (records_of commands text) c).references ≡ strings text command.reference (index.record_at commands (begin_of rows c))
  unfolding parsed parse
  record_references = ap (λ (p : Parsed). p.references) (b.reads c h)

  pub record_says : (f : Field) → (record_at (records_of commands text) c).says f ≡ option_map (placed_value (dir_of text (index.record_at commands (begin_of rows c))) f) (said text (index.record_at commands (begin_of rows c)) f)
  unfolding parsed parse
  record_says f = ap (λ (p : Parsed). p.says f) (b.reads c h)

  pub record_base : (record_at (records_of commands text) c).base ≡ own_base (dir_of text (index.record_at commands (begin_of rows c))) (single text command.base_url (index.record_at commands (begin_of rows c)))
  unfolding parsed parse said
  record_base = ap (λ (p : Parsed). p.base) (b.reads c h)

module _ (commands text : Text) (rows : List IndexRow) (b : Records commands text rows) (row : List ℕ) (k rec : ℕ) where
  -- what stands at a place of a row, where it is the number of a record, is short
  pub place_short :
      ((get_or row k absent ≡ absent → ⊥) → get_or row k absent < length (records_of commands text)) → Some rec ≡ begin_at rows row k →
      each_of (is_short 512 text) (read commands rec) ≡ true
  place_short h e =
      let z : rec ≡ begin_of rows (get_or row k absent) = found_rec rows row k rec e in
      good_short text (read commands rec) (subst (λ j. Sound text (read commands j)) (sym z) (b.sound (get_or row k absent) (h (found_place rows row k rec e)))).each

-- A row of the book's records

module _ (commands text : Text) (rows : List IndexRow) (b : Records commands text rows) (row : List ℕ) (w : Row (records_of commands text) row) where
  -- a supplier is a record
  pub supplier_there : (f : Field) → (supplier row f ≡ absent → ⊥) → supplier row f < length (records_of commands text)
  supplier_there f n = there (records_of commands text) (supplier row f) f (w.named f n)

  pub place_there : (k : ℕ) → k < 28 → (get_or row k absent ≡ absent → ⊥) → get_or row k absent < length (records_of commands text)
  place_there k h n =
      by_test (ltb k 26)
      (λ y. field_of k (ltb-true k 26 y) (λ f e.
      let z : supplier row f ≡ get_or row k absent = ap (λ (j : ℕ). get_or row j absent) e in
      omega (arith, supplier_there f (λ q. n (sym z ∙ q)), z)))
      (λ y. by_test (eqb k 26)
      (λ e. let z : get_or row k absent ≡ get_or row 26 absent = ap (λ (j : ℕ). get_or row j absent) (eqb-true k 26 e) in omega (arith, z, w.base))
      (λ e.
      let ne = eqb-false k 26 e in
      let le = ltb-false k 26 y in
      let k27 : k ≡ 27 = omega (arith, h, ne, le) in
      let z : get_or row k absent ≡ get_or row 27 absent = ap (λ (j : ℕ). get_or row j absent) k27 in
      omega (arith, z, w.own)))

  -- what begin_at asks for, at each place
  pub row_begin : (k : ℕ) → k < 28 → (k < length row) × ((get_or row k 255 ≡ 255 → ⊥) → get_or row k 255 < length rows)
  row_begin k h = (omega (arith, h, w.long), λ n. let z = place_there k h n in omega (arith, z, b.there))

  -- what stands at a place is a record of the book
  pub place_sound : (k rec : ℕ) → k < 28 → Some rec ≡ begin_at rows row k → Sound text (index.record_at commands rec)
  place_sound k rec h e =
      let z : rec ≡ begin_of rows (get_or row k absent) = found_rec rows row k rec e in
      subst (λ j. Sound text (index.record_at commands j)) (sym z) (b.sound (get_or row k absent) (place_there k h (found_place rows row k rec e)))

  pub field_sound : (f : Field) (rec : ℕ) → Some rec ≡ begin_at rows row (slot f) → Sound text (index.record_at commands rec)
  field_sound f rec e =
      let z : rec ≡ begin_of rows (supplier row f) = found_rec rows row (slot f) rec e in
      subst (λ j. Sound text (index.record_at commands j)) (sym z) (b.sound (supplier row f) (supplier_there f (found_place rows row (slot f) rec e)))

  -- The fields as merged

  module _ (f : Field) where
    named_says : option_map (λ v. v.value) ((config_of (records_of commands text) row).named f) ≡ (record_at (records_of commands text) (supplier row f)).says f
    unfolding config_of
    named_says = value_map (supplier row f) ((record_at (records_of commands text) (supplier row f)).says f)

    -- there is none
    pub field_none : None ≡ begin_at rows row (slot f) → option_map (λ v. v.value) ((config_of (records_of commands text) row).named f) ≡ None
    field_none e =
        let z : supplier row f ≡ absent = found_none rows row (slot f) e in
        named_says ∙ ap (λ (p : Parsed). p.says f) (get_or-eq_default (records_of commands text) blank (omega (arith, z, b.few)))

    -- what the supplier says
    pub field_at : (rec : ℕ) → Some rec ≡ begin_at rows row (slot f) → option_map (λ v. v.value) ((config_of (records_of commands text) row).named f) ≡ option_map (placed_value (dir_of text (index.record_at commands rec)) f) (said text (index.record_at commands rec) f)
    field_at rec e =
        named_says ∙ record_says commands text rows b (supplier row f) (supplier_there f (found_place rows row (slot f) rec e)) f
        ∙ ap (λ (j : ℕ). option_map (placed_value (dir_of text (index.record_at commands j)) f) (said text (index.record_at commands j) f)) (sym (found_rec rows row (slot f) rec e))

    pub field_value : option_map (λ v. v.value) ((config_of (records_of commands text) row).named f) ≡ option_map (placed_value (dir_of text (index.record_at commands (begin_of rows (supplier row f)))) f) (said_at commands text (begin_at rows row (slot f)) f)
    unfolding said_at
    field_value =
        by_test (eqb (supplier row f) absent)
        (λ y.
        let z : begin_at rows row (slot f) ≡ None = begin_not rows row (slot f) (eqb-true (supplier row f) absent y) in
        field_none (sym z) ∙ sym (ap (λ (x : Option ℕ). option_map (placed_value (dir_of text (index.record_at commands (begin_of rows (supplier row f)))) f) (said_at commands text x f)) z))
        (λ y.
        let z : begin_at rows row (slot f) ≡ Some (begin_of rows (supplier row f)) = begin_is rows row (slot f) (eqb-false (supplier row f) absent y) in
        field_at (begin_of rows (supplier row f)) (sym z) ∙ sym (ap (λ (x : Option ℕ). option_map (placed_value (dir_of text (index.record_at commands (begin_of rows (supplier row f)))) f) (said_at commands text x f)) z))

    -- of a field that parsing leaves as it is
    pub field_plain : plain f ≡ true → option_map (λ v. v.value) ((config_of (records_of commands text) row).named f) ≡ said_at commands text (begin_at rows row (slot f)) f
    field_plain e = field_value ∙ map_plain (dir_of text (index.record_at commands (begin_of rows (supplier row f)))) f e (said_at commands text (begin_at rows row (slot f)) f)

  -- The built config

  -- the path, the directory and the references of the row's own record
  pub site_dir : path_at (records_of commands text) (number_of row) ≡ record_path_of text (index.record_at commands (begin_of rows (number_of row)))
  site_dir = record_path_lem commands text rows b (number_of row) w.own

  pub site_path : (site_of (records_of commands text) row).path ≡ record_path_of text (index.record_at commands (begin_of rows (number_of row)))
  unfolding site_of
  site_path = site_dir

  pub own_begin : begin_at rows row own_place ≡ Some (begin_of rows (number_of row))
  own_begin = begin_is rows row own_place (λ e. omega (arith, e, w.own, b.few))

  pub base_begin : begin_at rows row base_place ≡ Some (begin_of rows (get_or row base_place absent))
  base_begin = begin_is rows row base_place (λ e. omega (arith, e, w.base, b.few))

  pub own_sound : Sound text (index.record_at commands (begin_of rows (number_of row)))
  own_sound = b.sound (number_of row) w.own

  pub base_sound : Sound text (index.record_at commands (begin_of rows (get_or row base_place absent)))
  base_sound = b.sound (get_or row base_place absent) w.base

  module _ (dir : Text) (d : dir ≡ dir_of text (index.record_at commands (begin_of rows (number_of row)))) where
    same_dir : parent_of (path_at (records_of commands text) (number_of row)) ≡ dir
    same_dir = ap parent_of site_dir ∙ sym d

    -- the base
    pub site_base : (site_of (records_of commands text) row).config.base ≡ substituted dir (own_base (dir_of text (index.record_at commands (begin_of rows (get_or row base_place absent)))) (single text command.base_url (index.record_at commands (begin_of rows (get_or row base_place absent)))))
    unfolding site_of built mapped config_of
    site_base = ap₂ substituted same_dir (record_base commands text rows b (get_or row base_place absent) w.base)

    module _ (base : Text) (s : base ≡ (site_of (records_of commands text) row).config.base) (f : Field) where
      -- a field, built from what was merged
      pub site_field : (site_of (records_of commands text) row).config.named f ≡ option_map (built_value dir base f) (option_map (λ v. v.value) ((config_of (records_of commands text) row).named f))
      unfolding site_of built mapped
      site_field = ap₂ (λ (x y : Text). option_map (built_value x y f) (option_map (λ v. v.value) ((config_of (records_of commands text) row).named f))) same_dir (sym s)

      pub site_none : None ≡ begin_at rows row (slot f) → (site_of (records_of commands text) row).config.named f ≡ None
      site_none e = site_field ∙ ap (option_map (built_value dir base f)) (field_none f e)

      pub site_at_lem : (rec : ℕ) → Some rec ≡ begin_at rows row (slot f) → (site_of (records_of commands text) row).config.named f ≡ option_map (built_value dir base f) (option_map (placed_value (dir_of text (index.record_at commands rec)) f) (said text (index.record_at commands rec) f))
      site_at_lem rec e = site_field ∙ ap (option_map (built_value dir base f)) (field_at f rec e)

      -- of a field that parsing leaves as it is
      pub site_plain : plain f ≡ true → (rec : ℕ) → Some rec ≡ begin_at rows row (slot f) → (site_of (records_of commands text) row).config.named f ≡ option_map (built_value dir base f) (said text (index.record_at commands rec) f)
      site_plain e rec a = site_at_lem rec a ∙ ap (option_map (built_value dir base f)) (map_plain (dir_of text (index.record_at commands rec)) f e (said text (index.record_at commands rec) f))
