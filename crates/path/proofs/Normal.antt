-- Laws of normal paths. Assumes nothing.
use mathlib.Core.Path.{◌≡◌, refl, sym, ◌∙◌}
use mathlib.Core.List.{[], ◌∷◌}
use mathlib.Core.Bool.{Bool, true, false, and-false}
use native.Mathlib.Omega.{arith}
use lib.ListN.{length, drop}
use lib.Dec.{eqb}
use Rattle.text.specs.Bytes.{Text, bytes, slash}
use Rattle.text.specs.Text.{each_of, same_text}
use Rattle.components.specs.Components.{split, piece_of, is_name, starts}
use Rattle.path.specs.Path.{normal}

-- r says whether the text starts with a slash
module _ (s : Text) (r : Bool) (e : r ≡ starts slash s) where
  pub normal_not : r ≡ false → false ≡ normal s
  unfolding normal starts same_text
  normal_not f = rw (← e, f, root s (sym e ∙ f))
    where
      root : (s : Text) → starts slash s ≡ false → same_text s (bytes "/") ≡ false
      root [] h = refl
      root (x ∷ s) h = rw h

  module _ (t : r ≡ true) where
    pub normal_root : length s ≡ 1 → true ≡ normal s
    unfolding normal starts same_text
    normal_root l = rw (root s l (sym e ∙ t))
      where
        root : (s : Text) → length s ≡ 1 → starts slash s ≡ true → same_text s (bytes "/") ≡ true
        root [] l h = absurd (omega arith)
        root (x ∷ []) l h = rw h
        root (x ∷ y ∷ s) l h = absurd (omega arith)

    pub normal_deep : (length s ≡ 1 → ⊥) → (q : Bool) → q ≡ each_of (λ p. is_name (piece_of p)) (split (drop 1 s)) → q ≡ normal s
    unfolding normal same_text
    normal_deep n q f = rw (← e, t, ← f, deep s n)
      where
        deep : (s : Text) → (length s ≡ 1 → ⊥) → same_text s (bytes "/") ≡ false
        deep [] n = refl
        deep (x ∷ []) n = absurd (n refl)
        deep (x ∷ y ∷ s) n = and-false (eqb x slash)
