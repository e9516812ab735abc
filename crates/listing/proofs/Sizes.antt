-- How long a listing may be: there is always room to count it. Assumes nothing.
use mathlib.Core.Path.{◌≡◌, ap}
use mathlib.Core.List.{List, [], ◌∷◌, ◌++◌, map, map-id}
use mathlib.Core.Bool.{Bool, true, false}
use Rattle.std.specs.Prelude.{Option, Some, None, option_map, IfSome}
use Prim.Native.Nat.{ℕ, ◌+◌, ◌*◌, ◌≤◌}
use native.Mathlib.Omega.{arith}
use lib.ListN.{length, length-append}
use lib.Dec.{ltb}
use Rattle.text.specs.Bytes.{Text, bytes}
use Rattle.text.proofs.Picks.{by_test}
use Rattle.book.specs.declared.Cmd.{Cmd}
use Rattle.book.specs.Command as command
use Rattle.book.specs.Rules.{text_of}
use Rattle.book.specs.Record.{Key, is, is_id, only, first_of, strings, single, targets_of, keys_of, option_of, record_path_of}
use Rattle.book.specs.Sound.{All, cons}
use Rattle.record.specs.Read.{read}
use Rattle.record.specs.Lists.{Record}
use Rattle.record.proofs.Short.{all_short, dir_short, path_short}
use Rattle.values.proofs.Lengths.{record_length, adjusted_length, substituted_length, placed_length}
use Rattle.tsconfig.specs.Parsed.{placed}
use Rattle.tsconfig.specs.Build.{adjusted}
use Rattle.tsconfig.specs.Listing.{row, rows, items, mapping, key_rows, decimal, if_named, flag_row, text_row}
use Rattle.lines.specs.Lines.{dir_of, built_key, built_place, built_strings, built_roots, built_keys}
use Rattle.fields.specs.Fields.{list_at, roots_at, url_at, place_at, mapping_at}
use Rattle.options.specs.Options.{text_at}

-- a command's string is as short as a book's
abbrev ShortIn : Text → Cmd → Type 0
ShortIn text c = length (text_of text c) ≤ 512

-- Lines

pub row_length : (name v : Text) → length (row name v) ≡ length name + length v + 2
unfolding row
row_length name v = omega (arith, length-append name (61 ∷ (v ++ 10 ∷ [])), length-append v (10 ∷ []))

items_length : (name : Text) (vs : List Text) → length (items name vs) ≤ length (rows name vs) + length name + 1
unfolding items rows
items_length name [] = omega (arith, length-append name (10 ∷ []))
items_length name (v ∷ vs) = omega arith

mapping_length : (ks : List Key) → length (mapping ks) ≤ length (key_rows ks) + 6
unfolding mapping key_rows
mapping_length [] = omega arith
mapping_length (k ∷ ks) = omega arith

decimal_length : (id : ℕ) → length (decimal id) ≤ 2
unfolding decimal
decimal_length id = by_test (ltb id 10) (λ t. rw t (omega arith)) (λ f. rw f (omega arith))

-- The lines of a record's strings

module _ (text : Text) where
  module _ (name : Text) (short : length name ≤ 20) (f : Text → Text) (small : (v : Text) → length v ≤ 512 → length (f v) ≤ 2700) where
    line : (c : Cmd) → ShortIn text c → length (row name (f (text_of text c))) ≤ 4000
    line c g = omega (arith, row_length name (f (text_of text c)), small (text_of text c) g, short)

    rows_only : (ok : Cmd → Bool) (r : List Cmd) → All (ShortIn text) r → length (rows name (map f (map (text_of text) (only ok r)))) ≤ length r * 4000
    unfolding rows only
    rows_only ok [] h = omega arith
    rows_only ok (c ∷ r) (cons g h) =
        by_test (ok c)
        (λ t. rw t (omega (arith, length-append (row name (f (text_of text c))) (rows name (map f (map (text_of text) (only ok r)))), line c g, rows_only ok r h)))
        (λ e. rw e (omega (arith, rows_only ok r h)))

    rows_strings : (op : ℕ) (r : List Cmd) → All (ShortIn text) r → length (rows name (map f (strings text op r))) ≤ length r * 4000
    unfolding strings
    rows_strings op r h = rows_only (is op) r h

    rows_targets : (r : List Cmd) → All (ShortIn text) r → length (rows name (map f (targets_of text r))) ≤ length r * 4000
    unfolding rows targets_of
    rows_targets [] h = omega arith
    rows_targets (c ∷ r) (cons g h) =
        by_test (is command.target c)
        (λ t. rw t (omega (arith, length-append (row name (f (text_of text c))) (rows name (map f (targets_of text r))), line c g, rows_targets r h)))
        (λ e. rw e (omega arith))

    first_line : (l : List Cmd) → length (if_named (row name) (option_map f (first_of (text_of text) l))) ≤ length (rows name (map f (map (text_of text) l)))
    unfolding if_named first_of rows
    first_line [] = omega arith
    first_line (c ∷ l) = omega (arith, length-append (row name (f (text_of text c))) (rows name (map f (map (text_of text) l))))

    row_single : (op : ℕ) (r : List Cmd) → All (ShortIn text) r → length (if_named (row name) (option_map f (single text op r))) ≤ length r * 4000
    unfolding single
    row_single op r h = omega (arith, first_line (only (is op) r), rows_only (is op) r h)

  text_line : (id : ℕ) (l : List Cmd) → length (if_named (text_row id) (first_of (text_of text) l)) ≤ length (rows (bytes "text " ++ decimal id) (map (λ v. v) (map (text_of text) l)))
  unfolding if_named first_of rows text_row
  text_line id [] = omega arith
  text_line id (c ∷ l) = omega (arith, length-append (row (bytes "text " ++ decimal id) (text_of text c)) (rows (bytes "text " ++ decimal id) (map (λ v. v) (map (text_of text) l))))

  row_option : (id : ℕ) (r : List Cmd) → All (ShortIn text) r → length (if_named (text_row id) (option_of text id r)) ≤ length r * 4000
  unfolding option_of
  row_option id r h =
      omega (
        arith,
        text_line id (only (is_id command.text_option id) r),
        rows_only (bytes "text " ++ decimal id) (omega (arith, length-append (bytes "text ") (decimal id), decimal_length id)) (λ v. v) (λ v s. omega (arith, s)) (is_id command.text_option id) r h,
      )

  module _ (dir base : Text) (sd : length dir ≤ 512) (sb : length base ≤ 1600) where
    rows_keys : (r : List Cmd) → All (ShortIn text) r → length r ≤ 32768 → length (key_rows (map (built_key dir base) (keys_of text r))) ≤ length r * 132000000
    unfolding key_rows keys_of
    rows_keys [] h s = omega arith
    rows_keys (c ∷ r) (cons g h) s =
        let rest = key_rows (map (built_key dir base) (keys_of text r)) in
        let targets = rows (bytes "target") (map (adjusted dir base) (targets_of text r)) in
        let k = row (bytes "key") (text_of text c) in
        by_test (is command.key c)
        (λ t. rw t (omega (
          arith,
          length-append k (targets ++ rest),
          length-append targets rest,
          row_length (bytes "key") (text_of text c),
          g,
          rows_targets (bytes "target") (omega arith) (adjusted dir base) (λ v z. omega (arith, adjusted_length dir base v, z, sd, sb)) r h,
          rows_keys r h (omega (arith, s)),
          s,
        )))
        (λ e. rw e (omega (arith, rows_keys r h (omega (arith, s)))))

-- The fields of a record whose book is no longer than it may be

shorts : (r : Record) → All (ShortIn r.text.now) (read r.commands.now r.at)
shorts r = all_short 512 r.text.now (read r.commands.now r.at) r.short

abbrev pub Fits : Record → Type 0
Fits r = length r.commands.now ≤ 32768

pub references_size : (r : Record) → Fits r → length (rows (bytes "reference") (strings r.text.now command.reference (read r.commands.now r.at))) ≤ 132000000
references_size r few =
    let l = strings r.text.now command.reference (read r.commands.now r.at) in
    let z : length (rows (bytes "reference") (map (λ v. v) l)) ≡ length (rows (bytes "reference") l) = ap (λ (m : List Text). length (rows (bytes "reference") m)) (map-id l) in
    omega (arith, z, rows_strings r.text.now (bytes "reference") (omega arith) (λ v. v) (λ v s. omega (arith, s)) command.reference (read r.commands.now r.at) (shorts r), record_length r.commands.now r.at, few)

module _ (dir : Text) (sd : length dir ≤ 512) where
  adjusted_small : (v : Text) → length v ≤ 512 → length (adjusted dir dir v) ≤ 2700
  adjusted_small v s = omega (arith, adjusted_length dir dir v, s, sd)

  placed_small : (r : Record) (v : Text) → length v ≤ 512 → length (built_place dir (dir_of r) v) ≤ 2700
  placed_small r v s =
      let own = dir_of r in
      omega (arith, substituted_length dir (placed own v), placed_length own v, s, dir_short 512 (record_path_of r.text.now (read r.commands.now r.at)) (path_short 512 r.text.now (read r.commands.now r.at) r.short), sd)

  pub list_size : (name : Text) → length name ≤ 20 → (op : ℕ) (f : Option Record) → IfSome f Fits → length (list_at name dir op f) ≤ 132000000
  unfolding list_at
  list_size name sn op None few = omega arith
  list_size name sn op (Some r) few =
      omega (arith, items_length name (built_strings r dir op), rows_strings r.text.now name sn (adjusted dir dir) adjusted_small op (read r.commands.now r.at) (shorts r), record_length r.commands.now r.at, few, sn)

  pub roots_size : (f : Option Record) → IfSome f Fits → length (roots_at dir f) ≤ 132000000
  unfolding roots_at
  roots_size None few = omega arith
  roots_size (Some r) few =
      omega (arith, items_length (bytes "rootDir") (built_roots r dir (dir_of r)), rows_strings r.text.now (bytes "rootDir") (omega arith) (built_place dir (dir_of r)) (placed_small r) command.root_dir (read r.commands.now r.at) (shorts r), record_length r.commands.now r.at, few)

  pub url_size : (f : Option Record) → IfSome f Fits → length (url_at dir f) ≤ 132000000
  unfolding url_at
  url_size None few = omega arith
  url_size (Some r) few = omega (arith, row_single r.text.now (bytes "baseUrl") (omega arith) (adjusted dir dir) adjusted_small command.base_url (read r.commands.now r.at) (shorts r), record_length r.commands.now r.at, few)

  pub place_size : (name : Text) → length name ≤ 20 → (op : ℕ) (f : Option Record) → IfSome f Fits → length (place_at name dir op f) ≤ 132000000
  unfolding place_at
  place_size name sn op None few = omega arith
  place_size name sn op (Some r) few =
      omega (arith, row_single r.text.now name sn (built_place dir (dir_of r)) (placed_small r) op (read r.commands.now r.at) (shorts r), record_length r.commands.now r.at, few)

  pub mapping_size : (base : Text) → length base ≤ 1600 → (f : Option Record) → IfSome f Fits → length (mapping_at dir base f) ≤ 4400000000000
  unfolding mapping_at
  mapping_size base sb None few = omega arith
  mapping_size base sb (Some r) few =
      omega (arith, mapping_length (built_keys r dir base), rows_keys r.text.now dir base sd sb (read r.commands.now r.at) (shorts r) (omega (arith, record_length r.commands.now r.at, few)), record_length r.commands.now r.at, few)

pub text_size : (id : ℕ) (r : Record) → Fits r → length (text_at r.commands.now r.text.now id (Some r.at)) ≤ 132000000
unfolding text_at if_named text_row
text_size id r few = omega (arith, row_option r.text.now id (read r.commands.now r.at) (shorts r), record_length r.commands.now r.at, few)

pub flag_line : (id : ℕ) (o : Option Bool) → length (if_named (flag_row id) o) ≤ 100
unfolding if_named flag_row
flag_line id None = omega arith
flag_line id (Some true) = omega (arith, row_length (bytes "flag " ++ decimal id) (bytes "1"), length-append (bytes "flag ") (decimal id), decimal_length id)
flag_line id (Some false) = omega (arith, row_length (bytes "flag " ++ decimal id) (bytes "0"), length-append (bytes "flag ") (decimal id), decimal_length id)
