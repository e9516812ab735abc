-- What `rposition` over a slice answers: the place that `position` finds in the reversed list, counted from the end.
use Rattle.std.proofs.Common.{◌≡◌, ℕ, suc, ◌+◌, ◌-◌, cond, eqb, ltb, Bool, true, false, List, [], ◌∷◌, length, reverse, Option, Some, None, refl, sym, ap, subst, ◌∙◌, arith}
use Rattle.std.specs.Fn.{Called}
use Rattle.std.specs.Iterator.{YieldsThen}
use Rattle.std.specs.List.{FoldsTo, position_or_len}
use Rattle.std.specs.Option.{MatchOption, IsSomeAnd}
use Rattle.std.specs.Slice.Iter.{iter_rest, iter_steps_back}
use Rattle.std.specs.declared.slice.Iter.{Iter}
use Rattle.std.proofs.lemmas.Iterator.{YieldsList}
use Rattle.std.proofs.lemmas.Iterator.Adapters.{position_from-zero}
use Rattle.std.proofs.lemmas.Iterator.Consumers.{YieldsList-from_shown}
use Rattle.std.proofs.lemmas.Iterator.Search.{position_from_yields_List}
use Rattle.std.proofs.lemmas.List.{length-reverse, reverse-append, reverse-reverse}
use denote.Param.Members.{Mut}
use Rattle.text.specs.Bytes.{Text}
use Rattle.text.specs.Text.{find_from, find_last_from, find_last}
use Rattle.text.proofs.Scans.{position_as_find, last_more}

-- a place in a list of n, counted from its end
abbrev pub mirrored : ℕ → Option ℕ → Option ℕ
mirrored n None = None
mirrored n (Some i) = Some (n - 1 - i)

mirrored_more : (b n i : ℕ) (s : Text) → mirrored (suc n) (find_from b (suc i) s) ≡ mirrored n (find_from b i s)
unfolding find_from
mirrored_more b n i [] = refl
mirrored_more b n i (x ∷ s) = go (eqb x b) (mirrored_more b n (suc i) s)
  where
    go : (t : Bool) → mirrored (suc n) (find_from b (suc (suc i)) s) ≡ mirrored n (find_from b (suc i) s) → mirrored (suc n) (cond t (Some (suc i)) (find_from b (suc (suc i)) s)) ≡ mirrored n (cond t (Some i) (find_from b (suc i) s))
    go true e = let z : suc n - 1 - suc i ≡ n - 1 - i = omega arith in ap (λ (k : ℕ). Some k) z
    go false e = e

last_reversed : (b : ℕ) (s : Text) → mirrored (length s) (find_from b 0 s) ≡ find_last b (reverse s)
unfolding find_from find_last_from
last_reversed b [] = refl
last_reversed b (x ∷ s) =
    let n = length s in
    let same : 0 + length (reverse s) ≡ n = omega (arith, length-reverse s) in
    let at : suc n - 1 - 0 ≡ n = omega arith in
    let told : cond (eqb x b) (Some n) (mirrored n (find_from b 0 s)) ≡ find_last b (reverse (x ∷ s)) =
    ap (cond (eqb x b) (Some n)) (last_reversed b s) ∙ (ap (λ (k : ℕ). cond (eqb x b) (Some k) (find_last b (reverse s))) (sym same)
    ∙ (sym (last_more b None 0 (reverse s) x) ∙ ap (find_last b) (sym (reverse-append (x ∷ []) s)))) in
    go (eqb x b) at (mirrored_more b n 0 s) ∙ told
  where
    go : (t : Bool) → suc (length s) - 1 - 0 ≡ length s → mirrored (suc (length s)) (find_from b 1 s) ≡ mirrored (length s) (find_from b 0 s) → mirrored (suc (length s)) (cond t (Some 0) (find_from b 1 s)) ≡ cond t (Some (length s)) (mirrored (length s) (find_from b 0 s))
    go true z e = ap (λ (k : ℕ). Some k) z
    go false z e = e

module _ {S A F : Type 0} {steps : S → Option A → S → Type 0} {v : A → ℕ} {g : Mut F (A × Unit {0}) Bool} {s : S} (all : Text) (b : ℕ) (u : S) (f : F)
    (road : YieldsList steps v s (reverse all)) (tells : (x : A) (t : Bool) (q : F) → Called g f (x, tt) t q → (q ≡ f) × (t ≡ eqb (v x) b)) where
  first_back : (r : Option ℕ) → r ≡ cond (ltb (position_or_len (λ (x : ℕ). eqb x b) (reverse all)) (length (reverse all))) (Some (position_or_len (λ (x : ℕ). eqb x b) (reverse all))) None → mirrored (length all) r ≡ find_last b all
  first_back r e =
      ap (mirrored (length all)) (e ∙ (position_from-zero (λ (x : ℕ). eqb x b) (reverse all) ∙ position_as_find b 0 (reverse all)))
      ∙ (ap (λ (n : ℕ). mirrored n (find_from b 0 (reverse all))) (sym (length-reverse all)) ∙ (last_reversed b (reverse all) ∙ ap (find_last b) (reverse-reverse all)))

  -- what `rposition` ensures, with n the number of items
  rposition_is : (r : Option ℕ) (n : ℕ) → n ≡ length all → (xs : List A) (o : Option A) (j : F) → YieldsThen steps s xs o u → FoldsTo (λ p x q. Called g p (x, tt) false q) f xs j → MatchOption o (r ≡ None) (λ x. IsSomeAnd r (λ i. i + 1 + length xs ≡ n) × ((h : F) × Called g j (x, tt) true h)) → r ≡ find_last b all
  rposition_is r n m xs None j y c e = e ∙ first_back None (position_from_yields_List (λ (x : ℕ). eqb x b) u f None (xs, None, j, y, c, refl) road tells)
  rposition_is None n m xs (Some x) j y c e = absurd e.0
  rposition_is (Some i) n m xs (Some x) j y c e =
      let at : i ≡ length all - 1 - length xs = omega (arith, m, e.0) in
      ap (λ (k : ℕ). Some k) at ∙ first_back (Some (length xs)) (position_from_yields_List (λ (x : ℕ). eqb x b) u f (Some (length xs)) (xs, Some x, j, y, c, (refl, e.1)) road tells)

  pub last_as_std : (r : Option ℕ) (n : ℕ) → n ≡ length all → (xs : List A) × (o : Option A) × (j : F) × YieldsThen steps s xs o u × FoldsTo (λ p x q. Called g p (x, tt) false q) f xs j × MatchOption o (r ≡ None) (λ x. IsSomeAnd r (λ i. i + 1 + length xs ≡ n) × ((h : F) × Called g j (x, tt) true h)) → r ≡ find_last b all
  last_as_std r n m d = rposition_is r n m d.0 d.1 d.2 d.3 d.4 d.5

-- the items of a slice from its end
pub from_the_end : {s : Iter ℕ} (xs : Text) → iter_rest s ≡ xs → YieldsList iter_steps_back (λ y. y.now) s (reverse xs)
from_the_end {s} xs e = subst (λ (k : Text). YieldsList iter_steps_back (λ y. y.now) s (reverse k)) e
    (YieldsList-from_shown iter_steps_back (λ y. y.now) (λ u. reverse (iter_rest u)) (λ u t p. length-reverse _ ∙ p.0)
    (λ u x t p. ap reverse p ∙ reverse-append (iter_rest t) (x.now ∷ [])) s)
