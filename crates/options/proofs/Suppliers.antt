-- What a row's config says of a field, read at the record that supplies it. Assumes nothing.
use Rattle.book.specs.Index.{begin_of}
use Rattle.book.specs.declared.IndexRow.{IndexRow}
use Rattle.std.proofs.Common.{◌≡◌, ℕ, suc, ◌+◌, ◌-◌, ◌<◌, ◌≤◌, List, [], ◌++◌, Bool, true, Option, Some, None, refl, sym, ap, ap₂, ◌∙◌, arith, add-one, zero}
use Rattle.std.specs.Prelude.{cond, option_map}
use mathlib.Core.List.{append_assoc}
use Rattle.text.specs.Bytes.{Text, bytes}
use Rattle.ends.specs.Ends.{parent_of}
use Rattle.book.specs.Record.{option_of, flag_of}
use Rattle.record.specs.Read.{read}
use Rattle.record.specs.Lists.{Record}
use Rattle.tsconfig.specs.Config.{Field, flag, text}
use Rattle.tsconfig.specs.Parsed.{said, placed_value}
use Rattle.tsconfig.specs.Build.{Settings, built_value}
use Rattle.tsconfig.specs.Listing.{row, if_named, flag_row, text_row, flags, texts}
use Rattle.rows.specs.Rows.{slot, number_of, site_of, Row, begin_at}
use Rattle.rows.specs.Records.{dir_of}
use Rattle.rows.specs.Checked.{records_in}
use Rattle.rows.specs.declared.Book.{Book}
use Rattle.rows.proofs.Fields.{row_begin, slot_of_flag, slot_of_text, plain, site_path, site_none, site_at_lem, site_plain}
use Rattle.sites.specs.Configs.{Supplied}
use Rattle.options.specs.Options.{flag_value, flag_at, text_value, text_at, option_line, Reaches, flags_from, texts_from, options_from, options_part}

-- the config of a row
abbrev pub config_in : Book → List ℕ → Settings
config_in b row = (site_of (records_in b) row).config

built_flag : (dir base : Text) (id : ℕ) (o : Option Bool) → option_map (built_value dir base (flag id)) o ≡ o
unfolding built_value
built_flag dir base id None = refl
built_flag dir base id (Some v) = refl

built_text : (dir base : Text) (id : ℕ) (o : Option Text) → option_map (built_value dir base (text id)) o ≡ o
unfolding built_value
built_text dir base id None = refl
built_text dir base id (Some v) = refl

-- The line of an option

flag_line : (id : ℕ) (o : Option Bool) → if_named (flag_row id) o ≡ option_line (bytes "flag ") id (option_map (λ (v : Bool). cond v (bytes "1") (bytes "0")) o)
unfolding if_named flag_row option_line
flag_line id None = refl
flag_line id (Some v) = refl

flag_shown : (commands : Text) (id : ℕ) (x : Option ℕ) → flag_at commands id x ≡ option_line (bytes "flag ") id (flag_value commands id x)
unfolding flag_at flag_value option_line if_named
flag_shown commands id None = refl
flag_shown commands id (Some at) = flag_line id (flag_of id (read commands at))

text_line : (id : ℕ) (o : Option Text) → if_named (text_row id) o ≡ option_line (bytes "text ") id o
unfolding if_named text_row option_line
text_line id None = refl
text_line id (Some v) = refl

text_shown : (commands t : Text) (id : ℕ) (x : Option ℕ) → text_at commands t id x ≡ option_line (bytes "text ") id (text_value commands t id x)
unfolding text_at text_value option_line if_named
text_shown commands t id None = refl
text_shown commands t id (Some at) = text_line id (option_of t id (read commands at))

-- A field of the config, built at the directory and over the base, is what its supplier says

module _ (b : Book) (row : List ℕ) (w : Row (records_in b) row) where
  module _ (dir : Text) (d : dir ≡ parent_of (site_of (records_in b) row).path) (base : Text) (bs : base ≡ (config_in b row).base) (f : Field) where
    here : dir ≡ dir_of b.paths.text.now (read b.commands.now (begin_of b.paths.rows.now (number_of row)))
    here = d ∙ ap parent_of (site_path b.commands.now b.paths.text.now b.paths.rows.now b.records row w)

    pub none_at : Supplied b row (slot f) None → (config_in b row).named f ≡ None
    none_at s = site_none b.commands.now b.paths.text.now b.paths.rows.now b.records row w dir here base bs f s.at

    pub some_at :
        (r : Record) → Supplied b row (slot f) (Some r) →
        (config_in b row).named f ≡ option_map (built_value dir base f) (option_map (placed_value (dir_of r.text.now (read r.commands.now r.at)) f) (said r.text.now (read r.commands.now r.at) f))
    some_at r s =
        let ce : r.commands.now ≡ b.commands.now = s.commands in
        let te : r.text.now ≡ b.paths.text.now = s.text in
        rw (ce, te) (site_at_lem b.commands.now b.paths.text.now b.paths.rows.now b.records row w dir here base bs f r.at s.at)

    pub plain_at : plain f ≡ true → (r : Record) → Supplied b row (slot f) (Some r) → (config_in b row).named f ≡ option_map (built_value dir base f) (said r.text.now (read r.commands.now r.at) f)
    plain_at p r s =
        let ce : r.commands.now ≡ b.commands.now = s.commands in
        let te : r.text.now ≡ b.paths.text.now = s.text in
        rw (ce, te) (site_plain b.commands.now b.paths.text.now b.paths.rows.now b.records row w dir here base bs f p r.at s.at)

  abbrev dir : Text
  dir = parent_of (site_of (records_in b) row).path

  own_dir : dir ≡ dir_of b.paths.text.now (read b.commands.now (begin_of b.paths.rows.now (number_of row)))
  own_dir = ap parent_of (site_path b.commands.now b.paths.text.now b.paths.rows.now b.records row w)

  module _ (id : ℕ) (l : id < 11) where
    -- the line of a flag is that of the config
    flag_said : (x : Option ℕ) → x ≡ begin_at b.paths.rows.now row (8 + id) → flag_at b.commands.now id x ≡ if_named (flag_row id) ((config_in b row).named (flag id))
    unfolding plain said flag_at if_named
    flag_said None e = sym (ap (if_named (flag_row id)) (site_none b.commands.now b.paths.text.now b.paths.rows.now b.records row w dir own_dir (config_in b row).base refl (flag id) (rw (slot_of_flag id l) e)))
    flag_said (Some at) e =
        sym (ap (if_named (flag_row id))
        (site_plain b.commands.now b.paths.text.now b.paths.rows.now b.records row w dir own_dir (config_in b row).base refl (flag id) refl at (rw (slot_of_flag id l) e) ∙ built_flag dir (config_in b row).base id (flag_of id (read b.commands.now at))))

  module _ (id : ℕ) (l : id < 7) where
    -- the line of a text option is that of the config
    pub text_said : (x : Option ℕ) → x ≡ begin_at b.paths.rows.now row (19 + id) → text_at b.commands.now b.paths.text.now id x ≡ if_named (text_row id) ((config_in b row).named (text id))
    unfolding plain said text_at if_named
    text_said None e = sym (ap (if_named (text_row id)) (site_none b.commands.now b.paths.text.now b.paths.rows.now b.records row w dir own_dir (config_in b row).base refl (text id) (rw (slot_of_text id l) e)))
    text_said (Some at) e =
        sym (ap (if_named (text_row id))
        (site_plain b.commands.now b.paths.text.now b.paths.rows.now b.records row w dir own_dir (config_in b row).base refl (text id) refl at (rw (slot_of_text id l) e) ∙ built_text dir (config_in b row).base id (option_of b.paths.text.now id (read b.commands.now at))))

  -- so are the lines of all

  flags_said : (id k : ℕ) → id + k ≤ 11 → flags_from b.commands.now b.paths.rows.now row id k ≡ flags (config_in b row) id k
  unfolding flags_from flags
  flags_said id zero h = refl
  flags_said id (suc k) h = ap₂ (λ (x y : Text). x ++ y) (flag_said id (omega (arith, h)) (begin_at b.paths.rows.now row (8 + id)) refl) (flags_said (suc id) k (omega (arith, h)))

  texts_said : (id k : ℕ) → id + k ≤ 7 → texts_from b.commands.now b.paths.rows.now row b.paths.text.now id k ≡ texts (config_in b row) id k
  unfolding texts_from texts
  texts_said id zero h = refl
  texts_said id (suc k) h = ap₂ (λ (x y : Text). x ++ y) (text_said id (omega (arith, h)) (begin_at b.paths.rows.now row (19 + id)) refl) (texts_said (suc id) k (omega (arith, h)))

  pub options_said : options_from b.commands.now b.paths.rows.now row b.paths.text.now ≡ options_part (config_in b row)
  unfolding options_from options_part
  options_said = ap₂ (λ (x y : Text). x ++ y) (flags_said 0 11 (omega arith)) (texts_said 0 7 (omega arith))

  -- each supplier is there
  pub reaches : Reaches b.paths.rows.now row
  reaches = record { long = w.long; within = λ k l. (row_begin b.commands.now b.paths.text.now b.paths.rows.now b.records row w k l).1 }

-- The loops over the ids

module _ (commands : Text) (rows : List IndexRow) (row : List ℕ) (id : ℕ) where
  pub flags_end : 11 ≤ id → flags_from commands rows row id (11 - id) ≡ []
  unfolding flags_from
  flags_end h = let z : 11 - id ≡ 0 = omega (arith, h) in rw z refl

  flags_on : id < 11 → flags_from commands rows row id (11 - id) ≡ flag_at commands id (begin_at rows row (8 + id)) ++ flags_from commands rows row (id + 1) (11 - (id + 1))
  unfolding flags_from
  flags_on h = let z : 11 - id ≡ suc (11 - (id + 1)) = omega (arith, h) in rw (z, add-one) refl

  pub flags_turn :
      id < 11 → (v : Option Text) → v ≡ flag_value commands id (begin_at rows row (8 + id)) → (y : Text) →
      flags_from commands rows row id (11 - id) ++ y ≡ option_line (bytes "flag ") id v ++ (flags_from commands rows row (id + 1) (11 - (id + 1)) ++ y)
  flags_turn h v e y =
      let more = flags_from commands rows row (id + 1) (11 - (id + 1)) in
      ap (λ (t : Text). t ++ y) (flags_on h ∙ ap (λ (t : Text). t ++ more) (flag_shown commands id (begin_at rows row (8 + id)) ∙ ap (option_line (bytes "flag ") id) (sym e))) ∙ append_assoc (option_line (bytes "flag ") id v) more y

  module _ (t : Text) where
    pub texts_end : 7 ≤ id → texts_from commands rows row t id (7 - id) ≡ []
    unfolding texts_from
    texts_end h = let z : 7 - id ≡ 0 = omega (arith, h) in rw z refl

    texts_on : id < 7 → texts_from commands rows row t id (7 - id) ≡ text_at commands t id (begin_at rows row (19 + id)) ++ texts_from commands rows row t (id + 1) (7 - (id + 1))
    unfolding texts_from
    texts_on h = let z : 7 - id ≡ suc (7 - (id + 1)) = omega (arith, h) in rw (z, add-one) refl

    pub texts_turn :
        id < 7 → (v : Option Text) → v ≡ text_value commands t id (begin_at rows row (19 + id)) →
        texts_from commands rows row t id (7 - id) ≡ option_line (bytes "text ") id v ++ texts_from commands rows row t (id + 1) (7 - (id + 1))
    texts_turn h v e = texts_on h ∙ ap (λ (line : Text). line ++ texts_from commands rows row t (id + 1) (7 - (id + 1))) (text_shown commands t id (begin_at rows row (19 + id)) ∙ ap (option_line (bytes "text ") id) (sym e))
