-- What `map_err` was handed, by what it gave. Assumes nothing.
use mathlib.Core.Path.{◌≡◌, refl, sym, subst, ◌∙◌}
use Rattle.std.specs.Prelude.{Result, Ok, Err}
use Rattle.std.specs.Result.{MatchResult, IsErrAnd}

module _ {A E D : Type 0} where
  pub mapped_ok : (r : Result A E) (m : Result A D) (P : E → D → Type 0) → MatchResult r (λ x. m ≡ Ok x) (λ e. IsErrAnd m (P e)) → (k : A) → m ≡ Ok k → r ≡ Ok k
  mapped_ok (Ok x) m P h k e = let q : ◌≡◌ {A = Result A D} (Ok x) (Ok k) = sym h ∙ e in let z : x ≡ k = cc in cc
  mapped_ok (Err x) m P h k e = let q : ⊥ = subst (λ (i : Result A D). IsErrAnd i (P x)) e h in absurd q

  pub mapped_err : (r : Result A E) (m : Result A D) (P : E → D → Type 0) → MatchResult r (λ x. m ≡ Ok x) (λ e. IsErrAnd m (P e)) → (d : D) → m ≡ Err d → (e : E) × ((r ≡ Err e) × P e d)
  mapped_err (Ok x) m P h d e = let q : ◌≡◌ {A = Result A D} (Ok x) (Err d) = sym h ∙ e in let z : ⊥ = cc in absurd z
  mapped_err (Err x) m P h d e = (x, (refl, subst (λ (i : Result A D). IsErrAnd i (P x)) e h))
