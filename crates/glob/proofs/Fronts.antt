-- Laws of what stands before the first star of a pattern. Assumes nothing.
use mathlib.Core.Path.{◌≡◌, refl, ap, sym, ◌∙◌}
use mathlib.Core.List.{[], ◌∷◌, ◌++◌}
use mathlib.Core.Bool.{Bool, true, false, not, cond, false≢true}
use Prim.Native.Nat.{ℕ, suc, ◌+◌, ◌≤◌, ◌<◌}
use native.Mathlib.Numerals.{add-one}
use native.Mathlib.Omega.{arith}
use lib.ListN.{length, get_or, take, drop, length-drop, drop_of_length-le}
use lib.Seq.{drop-cons, take-suc}
use lib.Dec.{eqb}
use borrow.Author.Tests.{ne_eqb, eqb-true, eqb-false, not-false}
use mathlib.Core.List.{reverse}
use Rattle.std.specs.List.{fold}
use Rattle.std.proofs.lemmas.List.{reverse-append}
use Rattle.std.proofs.lemmas.List.Sums.{fold-append}
use Rattle.text.specs.Bytes.{Text, slash, star, question}
use Rattle.glob.specs.Glob.{glob_of, eat, after, after_dirs, is_empty, no_slash, any_byte, after_star, Run, Dirs, Rest}
use Rattle.glob.specs.Verdicts.{Sound, Ahead, AtStar, Leads, behind_of, passed_of, takes_of}
use Rattle.glob.proofs.Tokens.{glob_end, glob_byte, glob_run, glob_dirs, glob_rest, dirs_room}
use Rattle.text.proofs.Picks.{by_test}
use Rattle.glob.proofs.Fate.{miss, inside_sound, past_sound}
use Rattle.glob.specs.declared.Verdict.{Verdict}
use Rattle.glob.specs.declared.Verdict.TheVariants.{Yes, No, Never}

-- One byte

-- a slash is taken by a slash alone
takes_slash : (b : Bool) (c x : ℕ) → cond b (no_slash x) (eqb x c) ≡ true → x ≡ slash → c ≡ slash
takes_slash true c x t e = absurd (false≢true (rw e at t))
takes_slash false c x t e = sym (eqb-true x c t) ∙ e

-- what takes another byte takes no slash
takes_other : (b : Bool) (c x y : ℕ) → cond b (no_slash x) (eqb x c) ≡ true → (x ≡ slash → ⊥) → no_slash y ≡ false → cond b (no_slash y) (eqb y c) ≡ false
takes_other true c x y t n e = e
takes_other false c x y t n e = ne_eqb y c (λ q. n (eqb-true x c t ∙ sym q ∙ eqb-true y slash (not-false (eqb y slash) e)))

by_slash : {X : Type 0} (x : ℕ) → (x ≡ slash → X) → ((x ≡ slash → ⊥) → X) → X
by_slash x f g = by_test (eqb x slash) (λ e. f (eqb-true x slash e)) (λ e. g (eqb-false x slash e))

module _ (c x : ℕ) (P : Text → Bool) (s : Text) (t : takes_of c x ≡ true) (v : Verdict) (k : Sound v P s) where
  behind_sound : Sound (behind_of x v) (eat (takes_of c) P) (x ∷ s)
  behind_sound =
      by_slash x
      (λ e. let d : c ≡ slash = takes_slash (eqb c question) c x t e in rw (e, d) (past_sound P s v k))
      (λ n. rw (ne_eqb x slash n) (inside_sound P s (takes_of c) x (λ y. takes_other (eqb c question) c x y t n) t v k))

-- Some bytes

passed_more : (w : Text) (x : ℕ) (v : Verdict) → passed_of (w ++ (x ∷ [])) v ≡ passed_of w (behind_of x v)
unfolding passed_of
passed_more [] x v = refl
passed_more (y ∷ w) x v = ap (behind_of y) (passed_more w x v)

-- what no byte in front changes
passed_same : (v : Verdict) → ((x : ℕ) → behind_of x v ≡ v) → (w : Text) → passed_of w v ≡ v
unfolding passed_of
passed_same v f [] = refl
passed_same v f (x ∷ w) = ap (behind_of x) (passed_same v f w) ∙ f x

cond_same : {A : Type 0} (b : Bool) (a : A) → cond b a a ≡ a
cond_same true a = refl
cond_same false a = refl

-- from the last byte to the first
pub passed_by_fold : (w : Text) (v : Verdict) → fold (λ (u : Verdict) (x : ℕ). behind_of x u) v (reverse w) ≡ passed_of w v
unfolding passed_of
passed_by_fold [] v = refl
passed_by_fold (x ∷ w) v =
    let f = λ (u : Verdict) (y : ℕ). behind_of y u in
    ap (fold f v) (reverse-append (x ∷ []) w) ∙ (fold-append f v (reverse w) (x ∷ []) ∙ ap (behind_of x) (passed_by_fold w v))

-- A scan over p and s, whose next place is i

pub ahead_start : (p s : Text) → Ahead 0 p s
unfolding passed_of
ahead_start p s = record { pattern = omega arith; path = omega arith; whole = λ v h. h }

module _ (p s : Text) (i : ℕ) (a : Ahead i p s) where
  -- a verdict that holds from i on holds of the whole
  module _ (v : Verdict) (f : (x : ℕ) → behind_of x v ≡ v) where
    known : Sound v (glob_of (drop i p)) (drop i s) → Sound v (glob_of p) s
    known h = rw (passed_same v f (take i s)) at (a.whole v h)

  yes_known : glob_of (drop i p) (drop i s) ≡ true → Sound Yes (glob_of p) s
  yes_known = known Yes (λ x. cond_same (eqb x slash) Yes)

  no_known : glob_of (drop i p) (drop i s) ≡ false → Sound No (glob_of p) s
  no_known = known No (λ x. cond_same (eqb x slash) No)

  never_known : after any_byte (glob_of (drop i p)) (drop i s) ≡ false → Sound Never (glob_of p) s
  never_known = known Never (λ x. cond_same (eqb x slash) Never)

  none_left_lem : i ≡ length s → drop i s ≡ []
  none_left_lem e = let h : length s ≤ i = omega arith in drop_of_length-le s h

  some_left : (i ≡ length s → ⊥) → i < length s
  some_left n = let h : i ≤ length s = a.path in omega arith

  pub end_yes : length p ≤ i → i ≡ length s → Sound Yes (glob_of p) s
  end_yes h e = yes_known (rw (glob_end p i h, none_left_lem e))

  pub end_no : length p ≤ i → (i ≡ length s → ⊥) → Sound No (glob_of p) s
  end_no h n = let k = some_left n in no_known (rw (glob_end p i h, drop-cons s i 0 k))

  module _ (h : i < length p) (n : get_or p i 0 ≡ star → ⊥) where
    pub byte_short : i ≡ length s → Sound Never (glob_of p) s
    unfolding after eat
    byte_short e = never_known (rw (glob_byte p i h n, none_left_lem e))

    module _ (m : i ≡ length s → ⊥) (t : Bool) (e : t ≡ takes_of (get_or p i 0) (get_or s i 0)) where
      pub byte_other : t ≡ false → Sound No (glob_of p) s
      byte_other f =
          let k = some_left m in
          no_known (rw (glob_byte p i h n, drop-cons s i 0 k) (miss (glob_of (drop (i + 1) p)) (drop (suc i) s) (takes_of (get_or p i 0)) (get_or s i 0) (sym e ∙ f)))

      byte_whole : t ≡ true → (v : Verdict) → Sound v (glob_of (drop (i + 1) p)) (drop (i + 1) s) → Sound (passed_of (take (i + 1) s) v) (glob_of p) s
      byte_whole f v g =
          let k = some_left m in
          let x = get_or s i 0 in
          rw (add-one i, take-suc s i 0 k, passed_more (take i s) x v)
          (a.whole (behind_of x v)
          (rw (glob_byte p i h n, drop-cons s i 0 k, ← add-one i)
          (behind_sound (get_or p i 0) x (glob_of (drop (i + 1) p)) (drop (i + 1) s) (sym e ∙ f) v g)))

      pub byte_on : t ≡ true → Ahead (i + 1) p s
      byte_on f = let k = some_left m in record { pattern = omega arith; path = omega arith; whole = byte_whole f }

-- At a star, with q after it

module _ (p s : Text) (i : ℕ) (a : AtStar i p s) (q : Text) (e : q ≡ drop (i + 1) p) where
  pub star_leads : after_star q ≡ Run → Leads 1 i (after no_slash) p s
  star_leads t =
      record {
        room = let h = a.room in omega arith;
        path = a.ahead.path;
        whole = λ v k. a.ahead.whole v (rw (glob_run p i a.room a.here (ap after_star (sym e) ∙ t)) k);
      }

  pub stars_leads : after_star q ≡ Dirs → Leads 3 i after_dirs p s
  stars_leads t =
      record {
        room = let h = a.room in omega (arith, dirs_room q t, ap length e, length-drop (i + 1) p);
        path = a.ahead.path;
        whole = λ v k. a.ahead.whole v (rw (glob_dirs p i a.room a.here (ap after_star (sym e) ∙ t)) k);
      }

  module _ (t : after_star q ≡ Rest) where
    rest_is : glob_of (drop i p) ≡ (λ u. not (is_empty u))
    rest_is = glob_rest p i a.room a.here (ap after_star (sym e) ∙ t)

    pub rest_never : length s ≡ i → Sound Never (glob_of p) s
    unfolding after
    rest_never n = never_known p s i a.ahead (rw (rest_is, none_left_lem p s i a.ahead (sym n)))

    pub rest_yes : (length s ≡ i → ⊥) → Sound Yes (glob_of p) s
    rest_yes n = let k = some_left p s i a.ahead (λ q. n (sym q)) in yes_known p s i a.ahead (rw (rest_is, drop-cons s i 0 k))
