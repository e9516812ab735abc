-- Where the record at a place of a row begins. Assumes nothing.
use mathlib.Core.Path.{◌≡◌, refl, sym, ap, ◌∙◌}
use mathlib.Core.List.{List}
use Prim.Native.Nat.{ℕ, ◌<◌}
use native.Mathlib.Omega.{arith}
use lib.ListN.{length, get_or}
use borrow.Author.Tests.{eq-eqb, ne_eqb}
use Rattle.std.specs.Prelude.{Some, None}
use Rattle.book.specs.Index.{begin_of}
use Rattle.book.specs.declared.IndexRow.{IndexRow}
use Rattle.rows.specs.Rows.{absent, begin_at}
use Rattle.rows.proofs.Lists.{get_d_any}

module _ (rows : List IndexRow) (row : List ℕ) (k : ℕ) (h : k < length row) where
  same : get_or row k 0 ≡ get_or row k absent
  same = get_d_any row k 0 absent h

  pub begin_none : get_or row k 0 ≡ 255 → None ≡ begin_at rows row k
  unfolding begin_at
  begin_none e = sym (rw (eq-eqb (get_or row k absent) absent (sym same ∙ e)) refl)

  module _ (n : get_or row k 0 ≡ 255 → ⊥) (i : ℕ) (w : i ≡ get_or row k 0) where
    pub begin_there : ((get_or row k 255 ≡ 255 → ⊥) → get_or row k 255 < length rows) → i < length rows
    begin_there f = let g = f (λ e. n (same ∙ e)) in omega (arith, g, w, same)

    pub begin_some : Some (begin_of rows i) ≡ begin_at rows row k
    unfolding begin_at
    begin_some = ap (λ (j : ℕ). Some (begin_of rows j)) (w ∙ same) ∙ sym (rw (ne_eqb (get_or row k absent) absent (λ e. n (same ∙ e))) refl)
