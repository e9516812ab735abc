-- The listing of a row of suppliers is what its suppliers say, field by field. Assumes nothing.
use Rattle.book.specs.Index.{begin_of}
use mathlib.Core.Path.{◌≡◌, refl, sym, ap, ◌∙◌}
use Rattle.path.proofs.Strip.{some_map}
use mathlib.Core.List.{List, ◌++◌, append_assoc, map-map}
use mathlib.Core.Bool.{true, true≢false}
use Rattle.std.specs.Prelude.{Option, Some, None, option_map, IfSome}
use Prim.Native.Nat.{ℕ, zero, suc, ◌+◌, ◌*◌, ◌≤◌, ◌<◌}
use native.Mathlib.Omega.{arith}
use lib.ListN.{length, length-append}
use Rattle.text.specs.Bytes.{Text, bytes}
use Rattle.text.specs.Text.{some_of}
use Rattle.path.specs.Path.{is_some}
use Rattle.text.proofs.Picks.{by_test}
use Rattle.ends.specs.Ends.{parent_of}
use Rattle.book.specs.declared.Cmd.{Cmd}
use Rattle.book.specs.Command as command
use Rattle.book.specs.Record as fields
use Rattle.book.specs.Record.{is, strings, single, listed, keys_of}
use Rattle.record.specs.Read.{read}
use Rattle.record.specs.Lists.{Record}
use Rattle.tsconfig.specs.Config as config
use Rattle.tsconfig.specs.Config.{Field}
use Rattle.tsconfig.specs.Parsed.{said, placed, placed_value}
use Rattle.tsconfig.specs.Build.{Settings, adjusted, substituted, built_value}
use Rattle.tsconfig.specs.Listing as listings
use Rattle.tsconfig.specs.Listing.{rows, items, if_named, flag_row, text_row, flags, texts, listing}
use Rattle.tsconfig_resolver.specs.Find.{record_at}
use Rattle.rows.specs.Rows.{slot, own_place, supplier, number_of, site_of, Row, begin_at}
use Rattle.rows.specs.Records.{dir_of}
use Rattle.rows.specs.Checked.{records_in}
use Rattle.rows.specs.declared.Book.{Book}
use Rattle.rows.proofs.Fields.{plain, found_place, found_rec, found_none, record_references, record_says, supplier_there, place_there, place_short, site_path}
use Rattle.lines.specs.Lines.{built_place}
use Rattle.fields.specs.Fields.{list_at, roots_at, url_at, place_at, mapping_at}
use Rattle.options.specs.Options.{text_at, options_part}
use Rattle.sites.specs.Configs.{Supplied}
use Rattle.options.proofs.Suppliers.{config_in, none_at, some_at, plain_at, text_said}
use Rattle.listing.specs.Parts.{lists_part, places_part, base_part}
use Rattle.listing.proofs.Sizes.{Fits, row_length, references_size, list_size, roots_size, url_size, place_size, mapping_size, text_size, flag_line}
use Rattle.emit.specs.Emit.{Room}

-- What a supplier that names a list or a mapping says

module _ (text : Text) (r : List Cmd) where
  listed_there : (mark item : ℕ) → is_some (listed text mark item r) ≡ true → listed text mark item r ≡ Some (strings text item r)
  unfolding listed is_some
  listed_there mark item h = by_test (some_of (is mark) r) (λ t. rw t refl) (λ f. absurd (true≢false (sym (rw f at h))))

  mapping_there : is_some (fields.mapping text r) ≡ true → fields.mapping text r ≡ Some (keys_of text r)
  unfolding fields.mapping is_some
  mapping_there h = by_test (some_of (is command.paths) r) (λ t. rw t refl) (λ f. absurd (true≢false (sym (rw f at h))))

-- Built values

module _ (dir base : Text) where
  built_url : (o : Option Text) → option_map (built_value dir base config.base_url) o ≡ option_map (adjusted dir dir) o
  unfolding built_value
  built_url None = refl
  built_url (Some v) = refl

  built_out : (own : Text) (o : Option Text) → option_map (built_value dir base config.out_dir) (option_map (placed_value own config.out_dir) o) ≡ option_map (built_place dir own) o
  unfolding built_value placed_value
  built_out own None = refl
  built_out own (Some v) = refl

  built_declarations : (own : Text) (o : Option Text) → option_map (built_value dir base config.declaration_dir) (option_map (placed_value own config.declaration_dir) o) ≡ option_map (built_place dir own) o
  unfolding built_value placed_value
  built_declarations own None = refl
  built_declarations own (Some v) = refl

-- A listing by its parts

pub by_parts : (references : List Text) (c : Settings) → listing references c ≡ lists_part c ++ base_part references c
unfolding listing lists_part base_part places_part options_part
by_parts references c =
    let a = if_named (items (bytes "files")) (c.named config.files) in
    let b = if_named (items (bytes "include")) (c.named config.include) in
    let d = if_named (items (bytes "exclude")) (c.named config.exclude) in
    let e = if_named (listings.row (bytes "baseUrl")) (c.named config.base_url) in
    let z = base_part references c in
    sym (append_assoc a (b ++ (d ++ e)) z ∙ ap (λ (t : Text). a ++ t) (append_assoc b (d ++ e) z ∙ ap (λ (t : Text). b ++ t) (append_assoc d e z)))

module _ (b : Book) (row : List ℕ) (w : Row (records_in b) row) where
  said_there : (f : Field) (r : Record) → Supplied b row (slot f) (Some r) → is_some (said r.text.now (read r.commands.now r.at) f) ≡ true
  said_there f r s =
      let n = found_place b.paths.rows.now row (slot f) r.at s.at in
      let i = supplier row f in
      let l = read b.commands.now (begin_of b.paths.rows.now i) in
      let ce : r.commands.now ≡ b.commands.now = s.commands in
      let te : r.text.now ≡ b.paths.text.now = s.text in
      rw (ce, te, found_rec b.paths.rows.now row (slot f) r.at s.at)
      (sym (some_map (placed_value (dir_of b.paths.text.now l) f) (said b.paths.text.now l f))
      ∙ sym (ap is_some (record_says b.commands.now b.paths.text.now b.paths.rows.now b.records i (supplier_there b.commands.now b.paths.text.now b.paths.rows.now b.records row w f n) f))
      ∙ w.named f n)

  -- The row's own record

  pub own_there : {X : Type 0} → None ≡ begin_at b.paths.rows.now row own_place → X
  own_there e = absurd (omega (arith, found_none b.paths.rows.now row own_place e, w.own, b.records.few))

  module _ (r : Record) (s : Supplied b row own_place (Some r)) where
    pub own_dir : parent_of (fields.record_path_of r.text.now (read r.commands.now r.at)) ≡ parent_of (site_of (records_in b) row).path
    own_dir =
        let ce : r.commands.now ≡ b.commands.now = s.commands in
        let te : r.text.now ≡ b.paths.text.now = s.text in
        rw (ce, te, found_rec b.paths.rows.now row own_place r.at s.at) (ap parent_of (sym (site_path b.commands.now b.paths.text.now b.paths.rows.now b.records row w)))

    pub own_references : strings r.text.now command.reference (read r.commands.now r.at) ≡ (record_at (records_in b) (number_of row)).references
    own_references =
        let ce : r.commands.now ≡ b.commands.now = s.commands in
        let te : r.text.now ≡ b.paths.text.now = s.text in
        rw (ce, te, found_rec b.paths.rows.now row own_place r.at s.at) (sym (record_references b.commands.now b.paths.text.now b.paths.rows.now b.records (number_of row) w.own))

  -- The fields

  module _ (dir : Text) (d : dir ≡ parent_of (site_of (records_in b) row).path) (base : Text) (bs : base ≡ (config_in b row).base) where
    pub files_part : (x : Option Record) → Supplied b row 0 x → if_named (items (bytes "files")) ((config_in b row).named config.files) ≡ list_at (bytes "files") dir command.file x
    unfolding if_named list_at slot plain built_value said
    files_part None s = ap (if_named (items (bytes "files"))) (none_at b row w dir d base bs config.files s)
    files_part (Some r) s =
        ap (if_named (items (bytes "files")))
        (plain_at b row w dir d base bs config.files refl r s
        ∙ ap (option_map (built_value dir base config.files)) (listed_there r.text.now (read r.commands.now r.at) command.files command.file (said_there config.files r s)))

    pub include_part : (x : Option Record) → Supplied b row 1 x → if_named (items (bytes "include")) ((config_in b row).named config.include) ≡ list_at (bytes "include") dir command.include_item x
    unfolding if_named list_at slot plain built_value said
    include_part None s = ap (if_named (items (bytes "include"))) (none_at b row w dir d base bs config.include s)
    include_part (Some r) s =
        ap (if_named (items (bytes "include")))
        (plain_at b row w dir d base bs config.include refl r s
        ∙ ap (option_map (built_value dir base config.include)) (listed_there r.text.now (read r.commands.now r.at) command.include command.include_item (said_there config.include r s)))

    pub exclude_part : (x : Option Record) → Supplied b row 2 x → if_named (items (bytes "exclude")) ((config_in b row).named config.exclude) ≡ list_at (bytes "exclude") dir command.exclude_item x
    unfolding if_named list_at slot plain built_value said
    exclude_part None s = ap (if_named (items (bytes "exclude"))) (none_at b row w dir d base bs config.exclude s)
    exclude_part (Some r) s =
        ap (if_named (items (bytes "exclude")))
        (plain_at b row w dir d base bs config.exclude refl r s
        ∙ ap (option_map (built_value dir base config.exclude)) (listed_there r.text.now (read r.commands.now r.at) command.exclude command.exclude_item (said_there config.exclude r s)))

    pub url_part : (x : Option Record) → Supplied b row 3 x → if_named (listings.row (bytes "baseUrl")) ((config_in b row).named config.base_url) ≡ url_at dir x
    unfolding if_named url_at slot plain said
    url_part None s = ap (if_named (listings.row (bytes "baseUrl"))) (none_at b row w dir d base bs config.base_url s)
    url_part (Some r) s =
        ap (if_named (listings.row (bytes "baseUrl"))) (plain_at b row w dir d base bs config.base_url refl r s ∙ built_url dir base (single r.text.now command.base_url (read r.commands.now r.at)))

    pub paths_part : (x : Option Record) → Supplied b row 4 x → if_named listings.mapping ((config_in b row).named config.paths) ≡ mapping_at dir base x
    unfolding if_named mapping_at slot plain built_value said
    paths_part None s = ap (if_named listings.mapping) (none_at b row w dir d base bs config.paths s)
    paths_part (Some r) s =
        ap (if_named listings.mapping)
        (plain_at b row w dir d base bs config.paths refl r s
        ∙ ap (option_map (built_value dir base config.paths)) (mapping_there r.text.now (read r.commands.now r.at) (said_there config.paths r s)))

    pub roots_part : (x : Option Record) → Supplied b row 5 x → if_named (items (bytes "rootDir")) ((config_in b row).named config.root_dirs) ≡ roots_at dir x
    unfolding if_named roots_at slot built_value placed_value said
    roots_part None s = ap (if_named (items (bytes "rootDir"))) (none_at b row w dir d base bs config.root_dirs s)
    roots_part (Some r) s =
        let l = read r.commands.now r.at in
        let own = dir_of r.text.now l in
        ap (if_named (items (bytes "rootDir"))) (some_at b row w dir d base bs config.root_dirs r s ∙ ap (λ (o : Option (List Text)). option_map (built_value dir base config.root_dirs) (option_map (placed_value own config.root_dirs) o)) (listed_there r.text.now l command.root_dirs command.root_dir (said_there config.root_dirs r s)))
        ∙ ap (items (bytes "rootDir")) (map-map (substituted dir) (placed own) (strings r.text.now command.root_dir l))

    pub out_part : (x : Option Record) → Supplied b row 6 x → if_named (listings.row (bytes "outDir")) ((config_in b row).named config.out_dir) ≡ place_at (bytes "outDir") dir command.out_dir x
    unfolding if_named place_at slot said
    out_part None s = ap (if_named (listings.row (bytes "outDir"))) (none_at b row w dir d base bs config.out_dir s)
    out_part (Some r) s =
        let l = read r.commands.now r.at in
        ap (if_named (listings.row (bytes "outDir"))) (some_at b row w dir d base bs config.out_dir r s ∙ built_out dir base (dir_of r.text.now l) (single r.text.now command.out_dir l))

    pub declarations_part : (x : Option Record) → Supplied b row 7 x → if_named (listings.row (bytes "declarationDir")) ((config_in b row).named config.declaration_dir) ≡ place_at (bytes "declarationDir") dir command.declaration_dir x
    unfolding if_named place_at slot said
    declarations_part None s = ap (if_named (listings.row (bytes "declarationDir"))) (none_at b row w dir d base bs config.declaration_dir s)
    declarations_part (Some r) s =
        let l = read r.commands.now r.at in
        ap (if_named (listings.row (bytes "declarationDir"))) (some_at b row w dir d base bs config.declaration_dir r s ∙ built_declarations dir base (dir_of r.text.now l) (single r.text.now command.declaration_dir l))

  -- How long it may be: there is always room to count it

  abbrev supplier_at : (k : ℕ) → k < 28 → (rec : ℕ) → Some rec ≡ begin_at b.paths.rows.now row k → Record
  supplier_at k l rec e =
      record {
        commands = b.commands;
        text = b.paths.text;
        at = rec;
        short = place_short b.commands.now b.paths.text.now b.paths.rows.now b.records row k rec (place_there b.commands.now b.paths.text.now b.paths.rows.now b.records row w k l) e;
      }

  supplied_by : (k : ℕ) → k < 28 → (x : Option ℕ) → x ≡ begin_at b.paths.rows.now row k → Option Record
  supplied_by k l None e = None
  supplied_by k l (Some rec) e = Some (supplier_at k l rec e)

  is_supplied : (k : ℕ) (l : k < 28) (x : Option ℕ) (e : x ≡ begin_at b.paths.rows.now row k) → Supplied b row k (supplied_by k l x e)
  unfolding supplied_by
  is_supplied k l None e = record { at = e; commands = tt; text = tt }
  is_supplied k l (Some rec) e = record { at = e; commands = refl; text = refl }

  pub supplies : (k : ℕ) → k < 28 → Option Record
  supplies k l = supplied_by k l (begin_at b.paths.rows.now row k) refl

  pub is_there : (k : ℕ) (l : k < 28) → Supplied b row k (supplies k l)
  unfolding supplies
  is_there k l = is_supplied k l (begin_at b.paths.rows.now row k) refl

fits : (b : Book) (row : List ℕ) (k : ℕ) (x : Option Record) → Supplied b row k x → IfSome x Fits
fits b row k None s = tt
fits b row k (Some r) s = let ce : r.commands.now ≡ b.commands.now = s.commands in omega (arith, ap length ce, b.records.small)

module _ (b : Book) (row : List ℕ) (w : Row (records_in b) row) where
  text_at_size : (id : ℕ) → 19 + id < 28 → (x : Option ℕ) → x ≡ begin_at b.paths.rows.now row (19 + id) → length (text_at b.commands.now b.paths.text.now id x) ≤ 132000000
  unfolding text_at
  text_at_size id l None e = omega arith
  text_at_size id l (Some rec) e = text_size id (supplier_at b row w (19 + id) l rec e) b.records.small

  texts_size : (k id : ℕ) → id + k ≤ 7 → length (texts (config_in b row) id k) ≤ k * 132000000
  unfolding texts
  texts_size zero id h = omega arith
  texts_size (suc k) id h =
      omega (
        arith,
        length-append (if_named (text_row id) ((config_in b row).named (config.text id))) (texts (config_in b row) (suc id) k),
        ap length (text_said b row w id (omega (arith, h)) (begin_at b.paths.rows.now row (19 + id)) refl),
        text_at_size id (omega (arith, h)) (begin_at b.paths.rows.now row (19 + id)) refl,
        texts_size k (suc id) (omega (arith, h)),
      )

  flags_size : (k id : ℕ) → length (flags (config_in b row) id k) ≤ k * 100
  unfolding flags
  flags_size zero id = omega arith
  flags_size (suc k) id =
      let o = (config_in b row).named (config.flag id) in
      omega (arith, length-append (if_named (flag_row id) o) (flags (config_in b row) (suc id) k), flag_line id o, flags_size k (suc id))

  options_size : length (options_part (config_in b row)) ≤ 1000000000
  unfolding options_part
  options_size = omega (arith, length-append (flags (config_in b row) 0 11) (texts (config_in b row) 0 7), flags_size 11 0, texts_size 7 0 (omega arith))

  module _ (dir : Text) (d : dir ≡ parent_of (site_of (records_in b) row).path) (sd : length dir ≤ 512) (base : Text) (bs : base ≡ (config_in b row).base) (sb : length base ≤ 1600) where
    -- a field's lines are short: what shows it is read at its supplier
    part_size : (k : ℕ) → k < 28 → (F : Option Record → Text) (t : Text) (n : ℕ) → ((x : Option Record) → Supplied b row k x → t ≡ F x) → ((x : Option Record) → IfSome x Fits → length (F x) ≤ n) → length t ≤ n
    part_size k l F t n is small =
        let x = supplies b row w k l in
        let s = is_there b row w k l in
        omega (arith, ap length (is x s), small x (fits b row k x s))

    pub lists_size : length (lists_part (config_in b row)) ≤ 600000000
    unfolding lists_part
    lists_size =
        let a = if_named (items (bytes "files")) ((config_in b row).named config.files) in
        let i = if_named (items (bytes "include")) ((config_in b row).named config.include) in
        let e = if_named (items (bytes "exclude")) ((config_in b row).named config.exclude) in
        let u = if_named (listings.row (bytes "baseUrl")) ((config_in b row).named config.base_url) in
        omega (
          arith,
          length-append a (i ++ (e ++ u)),
          length-append i (e ++ u),
          length-append e u,
          part_size 0 (omega arith) (list_at (bytes "files") dir command.file) a 132000000 (files_part b row w dir d base bs) (list_size dir sd (bytes "files") (omega arith) command.file),
          part_size 1 (omega arith) (list_at (bytes "include") dir command.include_item) i 132000000 (include_part b row w dir d base bs) (list_size dir sd (bytes "include") (omega arith) command.include_item),
          part_size 2 (omega arith) (list_at (bytes "exclude") dir command.exclude_item) e 132000000 (exclude_part b row w dir d base bs) (list_size dir sd (bytes "exclude") (omega arith) command.exclude_item),
          part_size 3 (omega arith) (url_at dir) u 132000000 (url_part b row w dir d base bs) (url_size dir sd),
        )

    places_size : length (places_part (config_in b row)) ≤ 2000000000
    unfolding places_part
    places_size =
        let a = if_named (items (bytes "rootDir")) ((config_in b row).named config.root_dirs) in
        let o = if_named (listings.row (bytes "outDir")) ((config_in b row).named config.out_dir) in
        let e = if_named (listings.row (bytes "declarationDir")) ((config_in b row).named config.declaration_dir) in
        let u = options_part (config_in b row) in
        omega (
          arith,
          length-append a (o ++ (e ++ u)),
          length-append o (e ++ u),
          length-append e u,
          options_size,
          part_size 5 (omega arith) (roots_at dir) a 132000000 (roots_part b row w dir d base bs) (roots_size dir sd),
          part_size 6 (omega arith) (place_at (bytes "outDir") dir command.out_dir) o 132000000 (out_part b row w dir d base bs) (place_size dir sd (bytes "outDir") (omega arith) command.out_dir),
          part_size 7 (omega arith) (place_at (bytes "declarationDir") dir command.declaration_dir) e 132000000 (declarations_part b row w dir d base bs) (place_size dir sd (bytes "declarationDir") (omega arith) command.declaration_dir),
        )

    module _ (r : Record) (s : Supplied b row own_place (Some r)) where
      abbrev references : List Text
      references = strings r.text.now command.reference (read r.commands.now r.at)

      pub base_size : length (base_part references (config_in b row)) ≤ 4600000000000
      unfolding base_part
      base_size =
          let a = listings.row (bytes "base") (config_in b row).base in
          let m = if_named listings.mapping ((config_in b row).named config.paths) in
          let l = rows (bytes "reference") references in
          let u = places_part (config_in b row) in
          omega (
            arith,
            length-append a (m ++ (l ++ u)),
            length-append m (l ++ u),
            length-append l u,
            row_length (bytes "base") (config_in b row).base,
            ap length bs,
            sb,
            part_size 4 (omega arith) (mapping_at dir base) m 4400000000000 (paths_part b row w dir d base bs) (mapping_size dir sd base sb),
            references_size r (fits b row own_place (Some r) s),
            places_size,
          )

      -- a listing is short
      pub listing_room : (at : ℕ) → at ≤ 65536 → Room at (lists_part (config_in b row) ++ base_part references (config_in b row))
      listing_room at h = record { room = omega (arith, h, length-append (lists_part (config_in b row)) (base_part references (config_in b row)), lists_size, base_size) }

      pub listing_is : listing (record_at (records_in b) (number_of row)).references (config_in b row) ≡ lists_part (config_in b row) ++ base_part references (config_in b row)
      listing_is =
          by_parts (record_at (records_in b) (number_of row)).references (config_in b row)
          ∙ ap (λ (l : List Text). lists_part (config_in b row) ++ base_part l (config_in b row)) (sym (own_references b row w r s))
