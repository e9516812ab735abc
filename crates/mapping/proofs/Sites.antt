-- The aliases and the candidates of a row's config. Assumes nothing.
use Rattle.book.specs.Index.{begin_of}
use Rattle.std.proofs.Common.{◌≡◌, ℕ, ◌≤◌, ◌<◌, Bool, true, false, List, [], ◌∷◌, map, length, Option, Some, None, option_map, refl, sym, ap, ◌∙◌, true≢false, arith}
use Rattle.std.proofs.lemmas.List.{nil_from_length}
use Rattle.path.proofs.Strip.{some_map}
use Rattle.text.specs.Bytes.{Text, dot}
use Rattle.text.specs.Text.{some_of}
use Rattle.text.proofs.Picks.{by_test}
use Rattle.emit.specs.Output.{Puts}
use Rattle.emit.specs.declared.Output.{Output}
use Rattle.emit.proofs.Outputs.{puts_both}
use Rattle.components.specs.Components.{starts}
use Rattle.path.specs.Path.{is_some}
use Rattle.ends.specs.Ends.{parent_of}
use Rattle.join.specs.Join.{normalize_with}
use Rattle.book.specs.declared.Cmd.{Cmd}
use Rattle.book.specs.Command as command
use Rattle.book.specs.Record.{is, keys_of, mapping}
use Rattle.items.proofs.Reading.{mapping_is, mapping_not}
use Rattle.record.specs.Read.{read}
use Rattle.tsconfig.specs.Config.{Field, base_url, paths}
use Rattle.tsconfig.specs.Parsed.{placed_value, said}
use Rattle.tsconfig.specs.Build.{Settings, built_value}
use Rattle.tsconfig.specs.Laid.{laid}
use Rattle.tsconfig.specs.Mapping.{from_paths, aliases, from_base_url, or_if_none, candidates}
use Rattle.values.proofs.Lengths.{record_length}
use Rattle.rows.specs.Rows.{slot, begin_at, supplier, number_of, Row}
use Rattle.rows.specs.Records.{dir_of}
use Rattle.rows.specs.Checked.{records_in}
use Rattle.rows.specs.declared.Book.{Book}
use Rattle.rows.proofs.Fields.{found_place, found_rec, record_says, supplier_there, place_there, place_short, site_path, site_none, site_plain, plain}
use Rattle.choice.specs.Keyed.{built_key}
use Rattle.targets.specs.Targets.{Lists}
use Rattle.targets.proofs.Aims.{lists_none}
use Rattle.sites.specs.Sites.{settings_in}
use Rattle.sites.specs.declared.Built.{Built}
use Rattle.sites.specs.declared.Config.{Config}
use Rattle.mapping.proofs.Mapped.{Few, few_none, paths_few}

-- What a row says

mapping_some : (text : Text) (r : List Cmd) → is_some (mapping text r) ≡ true → mapping text r ≡ Some (keys_of text r)
unfolding is_some
mapping_some text r e = by_test (some_of (is command.paths) r) (λ t. mapping_is text r t) (λ f. absurd (true≢false (sym e ∙ ap is_some (mapping_not text r f))))

module _ (c : Config) where
  abbrev b : Book
  b = c.book.now

  abbrev s : Text
  s = b.commands.now

  abbrev text : Text
  text = b.paths.text.now

  abbrev row : List ℕ
  row = c.row.now

  abbrev w : Row (records_in b) row
  w = c.named

  pub dir_is : c.dir.now ≡ dir_of text (read s (begin_of b.paths.rows.now (number_of row)))
  dir_is = c.place ∙ ap parent_of (site_path s text b.paths.rows.now b.records row w)

  -- the record that a place has names the field
  pub said_some : (f : Field) (rec : ℕ) → Some rec ≡ begin_at b.paths.rows.now row (slot f) → is_some (said text (read s rec) f) ≡ true
  said_some f rec e =
      let n = found_place b.paths.rows.now row (slot f) rec e in
      let z : rec ≡ begin_of b.paths.rows.now (supplier row f) = found_rec b.paths.rows.now row (slot f) rec e in
      let h = record_says s text b.paths.rows.now b.records (supplier row f) (supplier_there s text b.paths.rows.now b.records row w f n) f in
      ap (λ (j : ℕ). is_some (said text (read s j) f)) z
      ∙ sym (some_map (placed_value (dir_of text (read s (begin_of b.paths.rows.now (supplier row f)))) f) (said text (read s (begin_of b.paths.rows.now (supplier row f))) f))
      ∙ sym (ap is_some h) ∙ w.named f n

-- The aliases

module _ (built : Built) (spec : Text) where
  abbrev c : Config
  c = built.config

  abbrev base : Text
  base = built.base.now

  abbrev dir : Text
  dir = c.dir.now

  abbrev config : Settings
  config = settings_in c

  pub dotted : (k : Bool) → k ≡ starts dot spec → k ≡ true → aliases config spec ≡ []
  unfolding aliases
  dotted k e t = rw (← e, t)

  module _ (k : Bool) (e : k ≡ starts dot spec) (n : k ≡ false) where
    pub unmapped : None ≡ begin_at (b c).paths.rows.now (row c) 4 → aliases config spec ≡ []
    unfolding aliases from_paths slot
    unmapped q =
        let y : config.named paths ≡ None = site_none (s c) (text c) (b c).paths.rows.now (b c).records (row c) (w c) dir (dir_is c) base built.value paths q in
        rw (← e, n, y)

    module _ (rec : ℕ) (q : Some rec ≡ begin_at (b c).paths.rows.now (row c) 4) where
      named_is : config.named paths ≡ Some (map (built_key dir base) (keys_of (text c) (read (s c) rec)))
      unfolding slot built_value said plain
      named_is =
          site_plain (s c) (text c) (b c).paths.rows.now (b c).records (row c) (w c) dir (dir_is c) base built.value paths refl rec q
          ∙ ap (option_map (map (built_key dir base))) (mapping_some (text c) (read (s c) rec) (said_some c paths rec q))

      pub mapped : from_paths spec (Some (map (built_key dir base) (keys_of (text c) (read (s c) rec)))) ≡ aliases config spec
      unfolding aliases
      mapped = sym (rw (← e, n, named_is))

      mapped_few : length spec ≤ 512 → Few 32768 (aliases config spec)
      mapped_few short =
          let short_strings = place_short (s c) (text c) (b c).paths.rows.now (b c).records (row c) 4 rec (place_there (s c) (text c) (b c).paths.rows.now (b c).records (row c) (w c) 4 (omega arith)) q in
          rw (← mapped)
          (paths_few (text c) dir base spec 32768 c.short built.short short (read (s c) rec) short_strings (omega (arith, record_length (s c) rec, (b c).records.small)))

    -- they are not many, nor long
    pub aliases_few : length spec ≤ 512 → Few 32768 (aliases config spec)
    aliases_few short = by_found (begin_at (b c).paths.rows.now (row c) 4) refl
      where
        by_found : (x : Option ℕ) → x ≡ begin_at (b c).paths.rows.now (row c) 4 → Few 32768 (aliases config spec)
        by_found None z = few_none (unmapped z)
        by_found (Some rec) z = mapped_few rec z short

  -- What baseUrl gives

  pub base_unnamed : None ≡ begin_at (b c).paths.rows.now (row c) 3 → from_base_url config spec (config.named base_url) ≡ []
  unfolding from_base_url slot
  base_unnamed q =
      let x : config.named base_url ≡ None = site_none (s c) (text c) (b c).paths.rows.now (b c).records (row c) (w c) dir (dir_is c) base built.value base_url q in
      rw x

  from_base : (c : Settings) (v : Option Text) → is_some v ≡ true → from_base_url c spec v ≡ normalize_with c.base spec ∷ []
  unfolding from_base_url is_some
  from_base c None e = absurd (true≢false (sym e))
  from_base c (Some v) e = refl

  pub base_named : (rec : ℕ) → Some rec ≡ begin_at (b c).paths.rows.now (row c) 3 → from_base_url config spec (config.named base_url) ≡ normalize_with base spec ∷ []
  unfolding slot built_value said plain
  base_named rec q =
      let x = site_plain (s c) (text c) (b c).paths.rows.now (b c).records (row c) (w c) dir (dir_is c) base built.value base_url refl rec q in
      let n : is_some (config.named base_url) ≡ true = ap is_some x ∙ some_map (built_value dir base base_url) (said (text c) (read (s c) rec) base_url) ∙ said_some c base_url rec q in
      from_base config (config.named base_url) n ∙ ap (λ (t : Text). normalize_with t spec ∷ []) (sym built.value)

-- Lists where there is none

pub lists_empty : (ts : List Text) (o : Output) → ts ≡ [] → Lists ts o o 0
lists_empty ts o e = rw e (lists_none o)

-- Lists where there is one

pub lists_one : (ts : List Text) (o u : Output) (t : Text) → ts ≡ t ∷ [] → Puts (laid (t ∷ [])) o u → Lists ts o u 1
lists_one ts o u t e p = rw e (record { counts = refl; puts = p })

-- The candidates, where the mapping gave n

module _ (c : Settings) (spec : Text) (o u : Output) (n : ℕ) (y : Lists (aliases c spec) o u n) where
  some_stay : (ts us : List Text) → 0 < length ts → or_if_none ts us ≡ ts
  unfolding or_if_none
  some_stay [] us h = absurd (omega (arith, h))
  some_stay (t ∷ ts) us h = refl

  pub some_mapped : 0 < n → Lists (candidates c spec) o u n
  unfolding candidates
  some_mapped h = rw (some_stay (aliases c spec) (from_base_url c spec (c.named base_url)) (omega (arith, y.counts, h))) y

  module _ (z : n ≤ 0) where
    no_alias : aliases c spec ≡ []
    no_alias = nil_from_length (aliases c spec) (omega (arith, y.counts, z))

    none_puts : Puts [] o u
    unfolding laid
    none_puts = let p = y.puts in rw no_alias at p

    pub none_near : u.at ≡ o.at
    none_near = omega (arith, none_puts.wrote.next)

    by_base : candidates c spec ≡ from_base_url c spec (c.named base_url)
    unfolding candidates or_if_none
    by_base = rw no_alias

    -- what baseUrl gives is all
    pub none_mapped : (v : Output) (m : ℕ) → Lists (from_base_url c spec (c.named base_url)) u v m → Lists (candidates c spec) o v m
    none_mapped v m l = rw by_base (record { counts = l.counts; puts = puts_both [] _ o u v none_puts l.puts })
