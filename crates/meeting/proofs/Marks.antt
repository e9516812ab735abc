-- A look at all marks at once, and what it says of the rows. Assumes nothing.
use mathlib.Core.Path.{ap₂, ◌≡◌, refl, sym, ap, ◌∙◌}
use Rattle.text.proofs.Scans.{same_eq, eqb_sym}
use Rattle.std.proofs.lemmas.Bool.{or_parts}
use mathlib.Core.List.{List, [], ◌∷◌, map}
use mathlib.Core.Bool.{Bool, false, ◌||◌}
use Prim.Native.Nat.{ℕ, zero, suc}
use lib.ListN.{take}
use lib.Dec.{eqb}
use borrow.Author.Tests.{eqb-false}
use Rattle.text.specs.Bytes.{Text}
use Rattle.text.specs.Text.{same_text, some_of}
use Rattle.text.proofs.Picks.{by_test}
use Rattle.compare.specs.Compare.{digest_of}
use Rattle.book.specs.State.{string_at, texts, meets, IsSeen, AllSeen}
use Rattle.book.specs.declared.Seen.{Seen}
use Rattle.std.specs.List.{All, list_any}
use Rattle.std.proofs.lemmas.List.Elements.{All-nil, All-cons, All-head, All-tail}
use Rattle.meeting.proofs.Rows.{none_rows}

-- whether a mark is among the marks, as the library says it
pub marks_as_std : (mark : ℕ) (marks : List ℕ) → list_any (λ y. eqb y mark) marks ≡ some_of (eqb mark) marks
unfolding some_of
marks_as_std mark [] = refl
marks_as_std mark (x ∷ marks) = ap₂ ◌||◌ (eqb_sym x mark) (marks_as_std mark marks)

-- What it says of the rows

none_taken : (P : ℕ → Bool) (l : List ℕ) (n : ℕ) → some_of P l ≡ false → some_of P (take n l) ≡ false
unfolding some_of
none_taken P l zero e = refl
none_taken P [] (suc n) e = refl
none_taken P (x ∷ l) (suc n) e = rw (or_parts (P x) (some_of P l) e).0 (none_taken P l n (or_parts (P x) (some_of P l) e).1)

module _ (s text : Text) (mark : ℕ) (m : mark ≡ digest_of s) where
  -- a key of another digest
  pub other : (r : Seen) → IsSeen text r → eqb mark r.mark ≡ false → meets false s (string_at text r) ≡ false
  unfolding meets
  other r h e =
      by_test (same_text s (string_at text r))
      (λ y. absurd (eqb-false mark r.mark e (m ∙ ap digest_of (same_eq s (string_at text r) y) ∙ sym h.marked)))
      (λ f. f)

  none_marked : (rows : List Seen) → AllSeen text rows → some_of (eqb mark) (map (λ r. r.mark) rows) ≡ false → All (λ r. meets false s (string_at text r) ≡ false) rows
  unfolding some_of
  none_marked [] h e = All-nil (λ r. meets false s (string_at text r) ≡ false)
  none_marked (r ∷ rows) h e =
      All-cons (λ r. meets false s (string_at text r) ≡ false) r rows
      (other r (All-head (IsSeen text) r rows h) (or_parts (eqb mark r.mark) (some_of (eqb mark) (map (λ (r : Seen). r.mark) rows)) e).0)
      (none_marked rows (All-tail (IsSeen text) r rows h) (or_parts (eqb mark r.mark) (some_of (eqb mark) (map (λ (r : Seen). r.mark) rows)) e).1)

  -- a key whose digest is none of the marks is none of the keys
  pub unmarked : (rows : List Seen) → AllSeen text rows → (marks : List ℕ) (n : ℕ) → take n marks ≡ map (λ r. r.mark) rows → some_of (eqb mark) marks ≡ false → some_of (meets false s) (texts text rows) ≡ false
  unmarked rows h marks n k e = none_rows text (meets false s) rows (none_marked rows h (ap (some_of (eqb mark)) (sym k) ∙ none_taken (eqb mark) marks n e))
