-- Two strings that meet, and the rows that one is held against. Assumes nothing.
use mathlib.Core.Path.{◌≡◌, refl, sym, ap, ap₂, ◌∙◌}
use mathlib.Core.List.{List, [], ◌∷◌, ◌++◌, map, reverse, reverse-cons}
use mathlib.Core.Bool.{Bool, true, false, ◌&&◌, ◌||◌, cond, and-false, or-false, or_assoc, or_comm, or_self}
use Prim.Native.Nat.{ℕ, ◌≤◌, ◌<◌}
use native.Mathlib.Omega.{arith}
use lib.ListN.{length, get_or, length-drop}
use lib.Seq.{length-take-le}
use lib.Dec.{eqb}
use borrow.Author.Tests.{eq-eqb, ne_eqb, eqb-true, eqb-false}
use Rattle.text.specs.Bytes.{Text}
use Rattle.text.specs.Text.{prefix_of, same_text, some_of}
use Rattle.compare.specs.Compare.{covers}
use Rattle.compare.specs.Compare.{digest_of}
use Rattle.text.proofs.Scans.{same_length, same_as_std, some_as_std, same_eq}
use Rattle.compare.proofs.Ways.{over_short}
use Rattle.text.proofs.Picks.{by_test}
use Rattle.book.specs.Rules.{clash}
use Rattle.book.specs.State.{string_at, texts, meets, IsSeen, AllSeen}
use Rattle.book.specs.declared.Seen.{Seen}
use Rattle.std.specs.List.{All, list_any}
use Rattle.std.specs.Cmp.Lexicographic.{pointwise}
use Rattle.std.proofs.lemmas.List.Elements.{All-head, All-tail}

some_append : {A : Type 0} (P : A → Bool) (k l : List A) → some_of P (k ++ l) ≡ some_of P k || some_of P l
unfolding some_of
some_append P [] l = refl
some_append P (x ∷ k) l = rw (some_append P k l) (sym (or_assoc (P x) (some_of P k) (some_of P l)))

pub some_reverse : {A : Type 0} (P : A → Bool) (l : List A) → some_of P (reverse l) ≡ some_of P l
unfolding some_of
some_reverse P [] = refl
some_reverse P (x ∷ l) = ap (some_of P) (reverse-cons x l) ∙ some_append P (reverse l) (x ∷ []) ∙ ap₂ ◌||◌ (some_reverse P l) (or-false (P x)) ∙ or_comm (some_of P l) (P x)

some_map : {A B : Type 0} (P : B → Bool) (f : A → B) (l : List A) → some_of P (map f l) ≡ some_of (λ x. P (f x)) l
unfolding some_of
some_map P f [] = refl
some_map P f (x ∷ l) = rw (some_map P f l) refl

-- the tests agree at each of the list
some_same : {A : Type 0} (P Q : A → Bool) (l : List A) → All (λ x. P x ≡ Q x) l → some_of P l ≡ some_of Q l
unfolding some_of
some_same P Q [] h = refl
some_same P Q (x ∷ l) h = ap₂ ◌||◌ (All-head (λ x. P x ≡ Q x) x l h) (some_same P Q l (All-tail (λ x. P x ≡ Q x) x l h))

-- a test of the strings of rows, where it is a test of the rows
pub rows_same : (text : Text) (P : Text → Bool) (Q : Seen → Bool) (rows : List Seen) → All (λ r. Q r ≡ P (string_at text r)) rows → some_of Q rows ≡ some_of P (texts text rows)
unfolding texts
rows_same text P Q rows h =
    some_same Q (λ r. P (string_at text r)) rows h ∙ sym (some_map P (string_at text) (reverse rows) ∙ some_reverse (λ r. P (string_at text r)) rows)

nowhere : {A : Type 0} (l : List A) → some_of (λ x. false) l ≡ false
unfolding some_of
nowhere [] = refl
nowhere (x ∷ l) = nowhere l

-- what holds of no row is found in none
pub none_rows : (text : Text) (P : Text → Bool) (rows : List Seen) → All (λ r. P (string_at text r) ≡ false) rows → some_of P (texts text rows) ≡ false
none_rows text P rows h = sym (rows_same text P (λ r. false) rows (λ k d l. sym (h k d l))) ∙ nowhere rows

-- of two strings of one length, one covers the other where they are the same
covers_same : (a b : Text) → length a ≡ length b → covers b a ≡ same_text a b
unfolding covers prefix_of same_text
covers_same [] [] e = refl
covers_same [] (y ∷ b) e = absurd (omega (arith, e))
covers_same (x ∷ a) [] e = absurd (omega (arith, e))
covers_same (x ∷ a) (y ∷ b) e = ap (λ (t : Bool). eqb x y && t) (covers_same a b (omega (arith, e)))

same_swap : (a b : Text) → same_text a b ≡ same_text b a
unfolding same_text
same_swap [] [] = refl
same_swap [] (y ∷ b) = refl
same_swap (x ∷ a) [] = refl
same_swap (x ∷ a) (y ∷ b) = ap₂ ◌&&◌ (by_test (eqb x y) (λ t. t ∙ sym (eq-eqb y x (sym (eqb-true x y t)))) (λ f. f ∙ sym (ne_eqb y x (λ h. eqb-false x y f (sym h))))) (same_swap a b)

covers_short : (p q : Text) → length q < length p → covers p q ≡ false
covers_short p q h = sym (over_short p q h)

-- whether two strings meet, by their lengths; r is what the code tests of them
module _ (paths : Bool) (a b : Text) (r : Bool) where
  pub meet_same : length a ≡ length b → r ≡ covers b a → r ≡ meets paths a b
  unfolding meets clash
  meet_same e k =
      let z : covers a b ≡ same_text a b = covers_same b a (sym e) ∙ same_swap b a in
      by_test paths (λ t. rw t (k ∙ covers_same a b e ∙ sym (ap₂ ◌||◌ z (covers_same a b e) ∙ or_self (same_text a b)))) (λ f. rw f (k ∙ covers_same a b e))

  pub meet_short : paths ≡ true → length a < length b → r ≡ covers a b → r ≡ meets paths a b
  unfolding meets clash
  meet_short t h k = rw (t, covers_short b a h) (k ∙ sym (or-false (covers a b)))

  pub meet_long : paths ≡ true → length b < length a → r ≡ covers b a → r ≡ meets paths a b
  unfolding meets clash
  meet_long t h k = rw (t, covers_short a b h) k

pub meet_not : (paths : Bool) (a b : Text) → paths ≡ false → (length a ≡ length b → ⊥) → false ≡ meets paths a b
unfolding meets
meet_not paths a b f h = rw (f, same_length a b h)

pub meet_rest : (a b : Text) (r : Bool) → length b ≤ length a → r ≡ covers b a → r ≡ meets true a b
meet_rest a b r h k =
    by_test (eqb (length a) (length b))
    (λ y. meet_same true a b r (eqb-true (length a) (length b) y) k)
    (λ y. meet_long true a b r refl (omega (arith, h, eqb-false (length a) (length b) y)) k)

-- Two strings that cannot meet

pub meet_never : (paths : Bool) (a b : Text) → cond (eqb (length a) (length b)) (eqb (digest_of a) (digest_of b)) paths ≡ false → meets paths a b ≡ false
meet_never paths a b e =
    by_test (eqb (length a) (length b))
    (λ y.
    let l : length a ≡ length b = eqb-true (length a) (length b) y in
    let d : eqb (digest_of a) (digest_of b) ≡ false = rw y at e in
    sym (meet_same paths a b (covers b a) l refl) ∙ covers_same a b l
    ∙ by_test (same_text a b)
    (λ t. absurd (eqb-false (digest_of a) (digest_of b) d (ap digest_of (same_eq a b t))))
    (λ f. f))
    (λ y. let p : paths ≡ false = rw y at e in sym (meet_not paths a b p (eqb-false (length a) (length b) y)))

-- what the code tests of a row
abbrev pub row_met : Bool → Text → Text → ℕ → Seen → Bool
row_met paths text s mark r = cond (eqb (length s) r.len) (eqb mark r.mark) paths && meets paths s (string_at text r)

pub row_is : (paths : Bool) (text s : Text) (mark : ℕ) → mark ≡ digest_of s → (r : Seen) → IsSeen text r → row_met paths text s mark r ≡ meets paths s (string_at text r)
row_is paths text s mark m r h =
    let size : length (string_at text r) ≡ r.len = length-take-le _ _ (omega (arith, h.within, length-drop r.start text)) in
    by_test (cond (eqb (length s) r.len) (eqb mark r.mark) paths)
    (λ y. rw y refl)
    (λ y. rw y (sym (meet_never paths s (string_at text r) (rw (size, ← h.marked, ← m) y))))

-- what the code tests of a key's row
abbrev pub key_met : Text → Text → ℕ → Seen → Bool
key_met text s mark r = eqb r.mark mark && pointwise eqb s (string_at text r)

key_is : (text s : Text) (mark : ℕ) → mark ≡ digest_of s → (r : Seen) → IsSeen text r → key_met text s mark r ≡ meets false s (string_at text r)
unfolding meets
key_is text s mark m r i =
    let e : pointwise eqb s (string_at text r) ≡ same_text s (string_at text r) = same_as_std (pointwise eqb s (string_at text r)) s (string_at text r) refl in
    by_test (same_text s (string_at text r))
    (λ y. rw (e, y, eq-eqb r.mark mark (i.marked ∙ sym (m ∙ ap digest_of (same_eq s (string_at text r) y)))) refl)
    (λ f. rw (e, f) (and-false (eqb r.mark mark)))

pub keys_met : (text s : Text) (mark : ℕ) → mark ≡ digest_of s → (rows : List Seen) → AllSeen text rows → list_any (key_met text s mark) (reverse rows) ≡ some_of (meets false s) (texts text rows)
keys_met text s mark m rows h =
    some_as_std (key_met text s mark) (reverse rows) ∙ some_reverse (key_met text s mark) rows
    ∙ rows_same text (meets false s) (key_met text s mark) rows (λ k d l. key_is text s mark m (get_or rows k d) (h k d l))

pub rows_met :
    (paths : Bool) (text s : Text) (mark : ℕ) → mark ≡ digest_of s → (rows : List Seen) → AllSeen text rows →
    list_any (row_met paths text s mark) (reverse rows) ≡ some_of (meets paths s) (texts text rows)
rows_met paths text s mark m rows h =
    some_as_std (row_met paths text s mark) (reverse rows) ∙ some_reverse (row_met paths text s mark) rows
    ∙ rows_same text (meets paths s) (row_met paths text s mark) rows (λ k d l. row_is paths text s mark m (get_or rows k d) (h k d l))
