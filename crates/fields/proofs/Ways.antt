-- The ways out of the functions that write one field. Assumes nothing.
use Rattle.std.proofs.Common.{◌≡◌, ℕ, List, [], ◌∷◌, Option, Some, None, Bor, refl, sym, ap, ◌∙◌, map}
use Rattle.std.specs.Prelude.{option_copied}
use Rattle.text.specs.Bytes.{Text, bytes}
use Rattle.text.proofs.Picks.{by_test}
use Rattle.book.specs.declared.Cmd.{Cmd}
use Rattle.book.specs.Command.{key, root_dir, base_url}
use Rattle.book.specs.Rules.{text_of}
use Rattle.book.specs.Record.{Key, is, only, first_of, strings, single, keys_of}
use Rattle.record.specs.Read.{read}
use Rattle.record.specs.Lists.{Record}
use Rattle.tsconfig.specs.Build.{adjusted}
use Rattle.tsconfig.specs.Listing.{row, rows, items, mapping, key_rows, if_named}
use Rattle.lines.specs.Lines.{ended, dir_of, built_key, built_place, built_strings, built_roots, built_keys}
use Rattle.fields.specs.Fields.{list_at, roots_at, url_at, place_at, mapping_at}

-- A list is its name alone where its record has no item, else its rows

listed_none : (name text : Text) (f : Text → Text) (l : List Cmd) → first_of (text_of text) l ≡ None → items name (map f (map (text_of text) l)) ≡ ended name
unfolding first_of items
listed_none name text f [] e = refl
listed_none name text f (c ∷ l) e = absurd (cc)

listed_some : (name text : Text) (f : Text → Text) (l : List Cmd) {v : Text} → first_of (text_of text) l ≡ Some v → items name (map f (map (text_of text) l)) ≡ rows name (map f (map (text_of text) l))
unfolding first_of items
listed_some name text f [] e = absurd (cc)
listed_some name text f (c ∷ l) e = refl

module _ (name text : Text) (f : Text → Text) (op : ℕ) (r : List Cmd) where
  pub items_none : single text op r ≡ None → items name (map f (strings text op r)) ≡ ended name
  unfolding single strings
  items_none e = listed_none name text f (only (is op) r) e

  pub items_some : {v : Text} → single text op r ≡ Some v → items name (map f (strings text op r)) ≡ rows name (map f (strings text op r))
  unfolding single strings
  items_some e = listed_some name text f (only (is op) r) e

-- The same of a mapping and its keys

keys_left : (text : Text) (f : Key → Key) (r : List Cmd) → single text key r ≡ None → keys_of text r ≡ []
unfolding single only first_of keys_of
keys_left text f [] e = refl
keys_left text f (c ∷ r) e = by_test (is key c) (λ t. absurd (cc)) (λ n. rw n (keys_left text f r (rw n at e)))

module _ (text : Text) (f : Key → Key) (r : List Cmd) where
  pub mapping_none : single text key r ≡ None → mapping (map f (keys_of text r)) ≡ ended (bytes "paths")
  unfolding mapping
  mapping_none e = rw (keys_left text f r e) refl

pub mapping_some : (text : Text) (f : Key → Key) (r : List Cmd) {v : Text} → single text key r ≡ Some v → mapping (map f (keys_of text r)) ≡ key_rows (map f (keys_of text r))
unfolding single only first_of keys_of mapping
mapping_some text f [] e = absurd (cc)
mapping_some text f (c ∷ r) {v} e = by_test (is key c) (λ t. rw t refl) (λ n. rw n (mapping_some text f r (rw n at e)))

-- Where a field has no supplier, and where it has one: found is the supplier, and o what it says first

module _ (found : Option Record) where
  module _ (e : found ≡ None) where
    pub list_none : (name dir : Text) (op : ℕ) → list_at name dir op found ≡ []
    unfolding list_at
    list_none name dir op = rw e refl

    pub roots_none : (dir : Text) → roots_at dir found ≡ []
    unfolding roots_at
    roots_none dir = rw e refl

    pub url_none : (dir : Text) → url_at dir found ≡ []
    unfolding url_at
    url_none dir = rw e refl

    pub place_none : (name dir : Text) (op : ℕ) → place_at name dir op found ≡ []
    unfolding place_at
    place_none name dir op = rw e refl

    pub paths_none : (dir base : Text) → mapping_at dir base found ≡ []
    unfolding mapping_at
    paths_none dir base = rw e refl

  module _ {r : Record} (e : found ≡ Some r) {o : Option (Bor Text)} (op : ℕ) (v : option_copied o ≡ single r.text.now op (read r.commands.now r.at)) where
    missing : o ≡ None → single r.text.now op (read r.commands.now r.at) ≡ None
    missing n = sym v ∙ ap option_copied n

    got : {x : Bor Text} → o ≡ Some x → single r.text.now op (read r.commands.now r.at) ≡ Some x.now
    got g = sym v ∙ ap option_copied g

    module _ (name dir : Text) where
      pub list_empty : o ≡ None → ended name ≡ list_at name dir op found
      unfolding list_at
      list_empty n = rw e (sym (items_none name r.text.now (adjusted dir dir) op (read r.commands.now r.at) (missing n)))

      pub list_full : {x : Bor Text} → o ≡ Some x → rows name (built_strings r dir op) ≡ list_at name dir op found
      unfolding list_at
      list_full g = rw e (sym (items_some name r.text.now (adjusted dir dir) op (read r.commands.now r.at) (got g)))

      pub place_missing : o ≡ None → place_at name dir op found ≡ []
      unfolding place_at if_named
      place_missing n = rw (e, missing n) refl

      pub place_got : {x : Bor Text} → o ≡ Some x → row name (built_place dir (dir_of r) x.now) ≡ place_at name dir op found
      unfolding place_at if_named
      place_got g = rw (e, got g) refl

  module _ {r : Record} (e : found ≡ Some r) {o : Option (Bor Text)} (dir : Text) where
    module _ (v : option_copied o ≡ single r.text.now root_dir (read r.commands.now r.at)) where
      pub roots_empty : o ≡ None → ended (bytes "rootDir") ≡ roots_at dir found
      unfolding roots_at
      roots_empty n = rw e (sym (items_none (bytes "rootDir") r.text.now (built_place dir (dir_of r)) root_dir (read r.commands.now r.at) (missing e root_dir v n)))

      pub roots_full : {x : Bor Text} → o ≡ Some x → rows (bytes "rootDir") (built_roots r dir (dir_of r)) ≡ roots_at dir found
      unfolding roots_at
      roots_full g = rw e (sym (items_some (bytes "rootDir") r.text.now (built_place dir (dir_of r)) root_dir (read r.commands.now r.at) (got e root_dir v g)))

    module _ (v : option_copied o ≡ single r.text.now base_url (read r.commands.now r.at)) where
      pub url_missing : o ≡ None → url_at dir found ≡ []
      unfolding url_at if_named
      url_missing n = rw (e, missing e base_url v n) refl

      pub url_got : {x : Bor Text} → o ≡ Some x → row (bytes "baseUrl") (adjusted dir dir x.now) ≡ url_at dir found
      unfolding url_at if_named
      url_got g = rw (e, got e base_url v g) refl

    module _ (base : Text) (v : option_copied o ≡ single r.text.now key (read r.commands.now r.at)) where
      pub paths_empty : o ≡ None → ended (bytes "paths") ≡ mapping_at dir base found
      unfolding mapping_at
      paths_empty n = rw e (sym (mapping_none r.text.now (built_key dir base) (read r.commands.now r.at) (missing e key v n)))

      pub paths_full : {x : Bor Text} → o ≡ Some x → key_rows (built_keys r dir base) ≡ mapping_at dir base found
      unfolding mapping_at
      paths_full g = rw e (sym (mapping_some r.text.now (built_key dir base) (read r.commands.now r.at) (got e key v g)))
