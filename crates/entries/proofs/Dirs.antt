-- What an accepted book says of a record: its directory, its entries and its references. Assumes nothing.
use mathlib.Core.Path.{◌≡◌, refl, sym, ap, ap₂, subst, ◌∙◌, fun_ext}
use mathlib.Core.List.{List, [], ◌∷◌, map}
use Prim.Native.Nat.{ℕ, ◌<◌, ◌≤◌}
use native.Mathlib.Omega.{arith}
use lib.ListN.{length, get_or, take, get_or-map, length-map}
use Rattle.text.specs.Bytes.{Text}
use Rattle.ends.specs.Ends.{parent_of}
use Rattle.join.specs.Join.{normalize_with}
use Rattle.book.specs.Command.{extends, reference, target}
use Rattle.book.specs.declared.Cmd.{Cmd}
use Rattle.book.specs.Record.{is, only, strings, record_path_of}
use Rattle.book.specs.Rules.{text_of, limits}
use Rattle.record.proofs.Short.{good_short, path_short}
use Rattle.record.specs.Lists.{strings_left}
use Rattle.record.specs.declared.lists.Strings.{Strings}
use Rattle.record.specs.Lists.{Record}
use Rattle.book.specs.Index as index
use Rattle.book.specs.Index.{begin_of, index_at, path_in}
use Rattle.book.specs.Find.{locate}
use Rattle.book.specs.Sound.{All, Sound}
use Rattle.records.specs.Tables.{paths_in}
use Rattle.records.proofs.Paths.{path_row}
use Rattle.ends.proofs.Parents.{parent_le}
use Rattle.tsconfig.specs.Parsed.{Parsed, parsed, parse}
use Rattle.tsconfig_resolver.specs.Line as line
use Rattle.tsconfig_resolver.specs.Find.{blank, record_at, path_at, paths_of, meant, entry}
use Rattle.rows.specs.declared.CheckedBook.{CheckedBook}
use Rattle.rows.specs.Checked.{records_in}
use Rattle.entries.specs.declared.lists.Entries.{Entries}
use Rattle.entries.specs.Entries.{entries_of, entry_at, Inside, EntriesOf}

-- an entry by the paths of the records and the directory of its record
pub entry_is : (rs : List Parsed) (c : ℕ) (s : Text) → entry_at (paths_of rs) (parent_of (path_at rs c)) s ≡ entry rs c s
unfolding entry_at entry meant
entry_is rs c [] = refl
entry_is rs c (x ∷ s) = refl

module _ (b : CheckedBook) where
  pub few_records : length b.book.paths.rows.now ≤ 64
  few_records = omega (arith, b.listed.size, b.book.records.few)

  -- the record c, which is there
  module _ (c : ℕ) (inside : c < length b.book.paths.rows.now) where
    pub inside_records : c < length (records_in b.book)
    inside_records = omega (arith, inside, b.listed.size)

    pub record_sound : Sound b.book.paths.text.now (index.record_at b.book.commands.now (begin_of b.book.paths.rows.now c))
    record_sound = b.book.records.sound c inside_records

    path_is : path_at (records_in b.book) c ≡ record_path_of b.book.paths.text.now (index.record_at b.book.commands.now (begin_of b.book.paths.rows.now c))
    unfolding parsed parse
    path_is = ap (λ (r : Parsed). r.path) (b.book.records.reads c inside_records)

    extended_is : (record_at (records_in b.book) c).extended ≡ strings b.book.paths.text.now extends (index.record_at b.book.commands.now (begin_of b.book.paths.rows.now c))
    unfolding parsed parse
    extended_is = ap (λ (r : Parsed). r.extended) (b.book.records.reads c inside_records)

    pub references_are : (record_at (records_in b.book) c).references ≡ strings b.book.paths.text.now reference (index.record_at b.book.commands.now (begin_of b.book.paths.rows.now c))
    unfolding parsed parse
    references_are = ap (λ (r : Parsed). r.references) (b.book.records.reads c inside_records)

    -- the row of the table of paths
    row_is : path_in b.book.paths.text.now (index_at b.book.paths.rows.now c) ≡ path_at (records_in b.book) c
    row_is =
        sym (path_row b.book.paths.text.now b.book.paths.rows.now c inside)
        ∙ ap (λ (l : List Text). get_or l c []) b.listed.paths
        ∙ get_or-map (λ (r : Parsed). r.path) (records_in b.book) c blank

    -- its directory, by its row
    module _ (dir : Text) (e : dir ≡ parent_of (path_in b.book.paths.text.now (index_at b.book.paths.rows.now c))) where
      pub dir_is : dir ≡ parent_of (path_at (records_in b.book) c)
      dir_is = e ∙ ap parent_of row_is

      pub dir_short : length dir ≤ 512
      dir_short =
          let r = index.record_at b.book.commands.now (begin_of b.book.paths.rows.now c) in
          omega (arith, ap length dir_is, parent_le (path_at (records_in b.book) c), ap length path_is, path_short 512 b.book.paths.text.now r (good_short b.book.paths.text.now r record_sound.each))

    module _ (dir : Text) (e : dir ≡ parent_of (path_at (records_in b.book) c)) where
      -- what a path from the record's directory means
      pub meant_is : (s : Text) → locate (paths_in b.book.paths) (normalize_with dir s) ≡ meant (records_in b.book) c s
      unfolding meant
      meant_is s = ap₂ (λ (l : List Text) (d : Text). locate l (normalize_with d s)) b.listed.paths e

      -- the entries that were read
      pub entries_read : (es : Entries) → entries_of (take es.count es.all) ≡ map (entry_at (paths_in b.book.paths) dir) (strings b.book.paths.text.now extends (index.record_at b.book.commands.now (begin_of b.book.paths.rows.now c))) → All (Inside (length b.book.paths.rows.now)) (take es.count es.all) → EntriesOf (records_in b.book) c es
      entries_read es r a =
          record {
            entries =
                r
                ∙ ap₂ (λ (l : List Text) (d : Text). map (entry_at l d) (strings b.book.paths.text.now extends (index.record_at b.book.commands.now (begin_of b.book.paths.rows.now c)))) b.listed.paths e
                ∙ ap₂ (λ (g : Text → line.Entry) (l : List Text). map g l) (fun_ext (entry_is (records_in b.book) c)) (sym extended_is);
            inside = subst (λ (n : ℕ). All (Inside n) (take es.count es.all)) (sym b.listed.size) a;
          }

-- the record as the code reads it
module _ (b : CheckedBook) (c : ℕ) (inside : c < length b.book.paths.rows.now) (r : Record) (at : r.at ≡ begin_of b.book.paths.rows.now c) (commands : r.commands.now ≡ b.book.commands.now) (text : r.text.now ≡ b.book.paths.text.now) where
  -- its strings with a byte of which there are few
  module _ (it : Strings 512) (same : it.place ≡ r) where
    pub strings_are : (op : ℕ) → it.op ≡ op → strings_left it ≡ strings b.book.paths.text.now op (index.record_at b.book.commands.now (begin_of b.book.paths.rows.now c))
    strings_are op e = rw (e, same, text, commands, at) refl

-- there are no more of them than may be
module _ (text : Text) (r : List Cmd) (sound : Sound text r) where
  few_of : (op : ℕ) → (get_or limits op 0 ≡ 0 → ⊥) → (op ≡ target → ⊥) → length (strings text op r) ≤ get_or limits op 0
  unfolding strings
  few_of op n t = let h = sound.few op n t in omega (arith, length-map (only (is op) r) (text_of text), h)

  pub few_extends : length (strings text extends r) ≤ 8
  few_extends = few_of extends (λ e. absurd (omega (arith, e))) (λ e. absurd (omega (arith, e)))

  pub few_references : length (strings text reference r) ≤ 16
  few_references = few_of reference (λ e. absurd (omega (arith, e))) (λ e. absurd (omega (arith, e)))
