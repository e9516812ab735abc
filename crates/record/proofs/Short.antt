-- Laws of what is read from a place: its strings are short, and so they are from each later place on. Assumes nothing.
use Rattle.std.proofs.Common.{◌≡◌, ℕ, ◌+◌, ◌≤◌, Bool, true, List, [], ◌∷◌, ◌++◌, length, drop, Option, Some, None, Bor, refl, sym, ap₂, subst, ◌∙◌, le-leb, length-take, length-drop, arith}
use Rattle.std.proofs.lemmas.Bool.{and_parts}
use Rattle.std.specs.Prelude.{option_copied, unwrap_or, ◌&&◌}
use lib.Dec.{leb}
use borrow.Author.Tests.{leb-true}
use Rattle.text.specs.Bytes.{Text}
use Rattle.text.specs.Text.{each_of}
use Rattle.text.proofs.Picks.{by_test}
use Rattle.ends.specs.Ends.{parent_of}
use Rattle.ends.proofs.Parents.{parent_le}
use Rattle.strings.specs.Strings.{string_rule, plain_byte}
use Rattle.book.specs.declared.Cmd.{Cmd}
use Rattle.book.specs.Command.{begin, target}
use Rattle.book.specs.Rules.{text_of, own_rule, good_string}
use Rattle.book.specs.Record.{is, only, first_of, single, strings, targets_of, record_path_of}
use Rattle.book.specs.Sound.{All, nil, cons, Good}
use Rattle.items.specs.Items.{item_by, target_item}
use Rattle.items.proofs.Reading.{read_from, got, aimed}
use Rattle.record.specs.Read.{read, is_short}

-- what a checked book's record says is short
pub good_short : (text : Text) (r : List Cmd) → All (Good text) r → each_of (is_short 512 text) r ≡ true
unfolding each_of good_string string_rule
good_short text [] nil = refl
good_short text (c ∷ r) (cons g h) =
    let t : Text = text_of text c in
    let rule : string_rule t ≡ true = (and_parts (string_rule t) (own_rule c.op t) (and_parts (leb (c.start + c.len) (length text)) (string_rule t && own_rule c.op t) g.string).1).0 in
    rw ((and_parts (leb (length t) 512) (each_of plain_byte t) rule).0, good_short text r h) refl

-- in any text each string is as short as the text
pub any_short : (most : ℕ) (text : Text) → length text ≤ most → (r : List Cmd) → each_of (is_short most text) r ≡ true
unfolding each_of text_of
any_short most text l [] = refl
any_short most text l (c ∷ r) = rw (le-leb (length (text_of text c)) most (omega (arith, l, length-take c.len (drop c.start text), length-drop c.start text)), any_short most text l r) refl

-- so are the strings that are read, the targets and the path

module _ (most : ℕ) (text : Text) where
  pub all_short : (r : List Cmd) → each_of (is_short most text) r ≡ true → All (λ c. length (text_of text c) ≤ most) r
  unfolding each_of
  all_short [] e = nil
  all_short (c ∷ r) e =
      let p = and_parts (is_short most text c) (each_of (is_short most text) r) e in
      cons (leb-true (length (text_of text c)) most p.0) (all_short r p.1)

  pub strings_short : (op : ℕ) (r : List Cmd) → each_of (is_short most text) r ≡ true → All (λ t. length t ≤ most) (strings text op r)
  unfolding strings only each_of
  strings_short op [] e = nil
  strings_short op (c ∷ r) e =
      let p = and_parts (is_short most text c) (each_of (is_short most text) r) e in
      by_test (is op c) (λ t. rw t (cons (leb-true (length (text_of text c)) most p.0) (strings_short op r p.1))) (λ f. rw f (strings_short op r p.1))

  pub targets_short : (r : List Cmd) → each_of (is_short most text) r ≡ true → All (λ t. length t ≤ most) (targets_of text r)
  unfolding targets_of each_of
  targets_short [] e = nil
  targets_short (c ∷ r) e =
      let p = and_parts (is_short most text c) (each_of (is_short most text) r) e in
      by_test (is target c) (λ t. rw t (cons (leb-true (length (text_of text c)) most p.0) (targets_short r p.1))) (λ f. rw f nil)

  pub path_short : (r : List Cmd) → each_of (is_short most text) r ≡ true → length (record_path_of text r) ≤ most
  unfolding record_path_of single first_of only each_of
  path_short [] e = omega arith
  path_short (c ∷ r) e =
      let p = and_parts (is_short most text c) (each_of (is_short most text) r) e in
      by_test (is begin c) (λ t. rw t (leb-true (length (text_of text c)) most p.0)) (λ f. rw f (path_short r p.1))

each_after : {A : Type 0} (ok : A → Bool) (xs l : List A) → each_of ok (xs ++ l) ≡ true → each_of ok l ≡ true
unfolding each_of
each_after ok [] l e = e
each_after ok (x ∷ xs) l e = each_after ok xs l (and_parts (ok x) (each_of ok (xs ++ l)) e).1

-- the strings from an offset on are short: so are those that are read before next, c the last of them, and those from there on
module _ (most : ℕ) (text s : Text) (at : ℕ) (h : each_of (is_short most text) (read s at) ≡ true) (c : Cmd) (next : ℕ) (before : List Cmd) (reads : read s at ≡ before ++ c ∷ read s next) where
  parts : (is_short most text c ≡ true) × (each_of (is_short most text) (read s next) ≡ true)
  unfolding each_of
  parts = and_parts (is_short most text c) (each_of (is_short most text) (read s next)) (each_after (is_short most text) before (c ∷ read s next) (subst (λ (l : List Cmd). each_of (is_short most text) l ≡ true) reads h))

-- c is the first of some, and next is the offset after it
module _ (most : ℕ) (text s : Text) (at : ℕ) (h : each_of (is_short most text) (read s at) ≡ true) (r : Option (Cmd × ℕ)) {c : Cmd} {next : ℕ} (e : r ≡ Some (c, next)) where
  module _ (ok : Cmd → Bool) (i : r ≡ item_by ok (read_from s at)) where
    found : (is_short most text c ≡ true) × (each_of (is_short most text) (read s next) ≡ true)
    found = let g = got ok s at c next (sym e ∙ i) in parts most text s at h c next g.passed g.reads

    pub found_rest : each_of (is_short most text) (read s next) ≡ true
    found_rest = found.1

    pub found_short : length (text_of text c) ≤ most
    found_short = leb-true (length (text_of text c)) most found.0

  module _ (i : r ≡ target_item (read_from s at)) where
    aim : (is_short most text c ≡ true) × (each_of (is_short most text) (read s next) ≡ true)
    aim = parts most text s at h c next [] (aimed s at c next (sym e ∙ i)).reads

    pub aimed_rest : each_of (is_short most text) (read s next) ≡ true
    aimed_rest = aim.1

    pub aimed_short : length (text_of text c) ≤ most
    aimed_short = leb-true (length (text_of text c)) most aim.0

-- what a record's path is, and its directory

copied_or : (r : Option (Bor Text)) (d : Bor Text) → (unwrap_or r d).now ≡ unwrap_or (option_copied r) d.now
copied_or None d = refl
copied_or (Some x) d = refl

pub path_is : (text s : Text) (at : ℕ) (r : Option (Bor Text)) → option_copied r ≡ single text begin (read s at) → (d : Bor Text) → d.now ≡ [] → (unwrap_or r d).now ≡ record_path_of text (read s at)
unfolding record_path_of
path_is text s at r v d e = copied_or r d ∙ ap₂ (λ (o : Option Text) (t : Text). unwrap_or o t) v e

pub dir_short : (most : ℕ) (p : Text) → length p ≤ most → length (parent_of p) ≤ most
dir_short most p h = omega (arith, h, parent_le p)
