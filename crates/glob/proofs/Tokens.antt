-- Laws of reading a pattern: what it matches, by the bytes at a place in it. Assumes nothing.
use mathlib.Core.Path.{◌≡◌, refl, ap, ◌∙◌}
use mathlib.Core.List.{List, [], ◌∷◌}
use mathlib.Core.Bool.{Bool, true, false, not, cond}
use Prim.Native.Nat.{ℕ, zero, suc, ◌+◌, ◌≤◌, ◌<◌}
use native.Mathlib.Numerals.{add-one}
use native.Mathlib.Omega.{arith}
use lib.ListN.{length, get_or, drop, drop_of_length-le}
use lib.Seq.{drop-cons, drop-drop}
use lib.Dec.{eqb}
use borrow.Author.Tests.{eq-eqb, ne_eqb}
use Rattle.text.specs.Bytes.{Text, slash, star, question}
use Rattle.glob.specs.Glob.{Token, Byte, One, Run, Dirs, Rest, token_at, after_star, after_stars, more, tokens, match_tokens, glob_of, eat, after, after_dirs, is_empty, no_slash}
use Rattle.glob.specs.Verdicts.{takes_of}

-- What a star begins, by the bytes q after it

pub run_last : (q : Text) → length q ≡ 0 → after_star q ≡ Run
unfolding after_star
run_last [] h = refl
run_last (d ∷ q) h = let z : ⊥ = omega arith in absurd z

pub run_alone : (q : Text) → (length q ≡ 0 → ⊥) → (get_or q 0 0 ≡ star → ⊥) → after_star q ≡ Run
unfolding after_star
run_alone [] h n = absurd (h refl)
run_alone (d ∷ q) h n = rw (ne_eqb d star n)

module _ (q : Text) (h : length q ≡ 0 → ⊥) (e : get_or q 0 0 ≡ star) where
  two_stars_lem : after_star q ≡ after_stars (drop 1 q)
  unfolding after_star
  two_stars_lem = let k : 0 < length q = omega arith in rw (drop-cons q 0 0 k, eq-eqb _ _ e)

  pub rest_last : length q ≡ 1 → after_star q ≡ Rest
  unfolding after_stars
  rest_last l = let k : length q ≤ 1 = omega arith in rw (two_stars_lem, drop_of_length-le q k)

  module _ (l : length q ≡ 1 → ⊥) where
    pub dirs_next : get_or q 1 0 ≡ slash → after_star q ≡ Dirs
    unfolding after_stars
    dirs_next f = let k : 1 < length q = omega arith in rw (two_stars_lem, drop-cons q 1 0 k, eq-eqb _ _ f)

    pub run_next : (get_or q 1 0 ≡ slash → ⊥) → after_star q ≡ Run
    unfolding after_stars
    run_next n = let k : 1 < length q = omega arith in rw (two_stars_lem, drop-cons q 1 0 k, ne_eqb _ _ n)

-- `**/` has two bytes after its first star
pub dirs_room : (q : Text) → after_star q ≡ Dirs → 2 ≤ length q
unfolding after_star after_stars
dirs_room [] e = let w : ⊥ = cc in absurd w
dirs_room (d ∷ []) e = go (eqb d star) e
  where
    go : (b : Bool) → cond b Rest Run ≡ Dirs → 2 ≤ 1
    go true e = let w : ⊥ = cc in absurd w
    go false e = let w : ⊥ = cc in absurd w
dirs_room (d ∷ f ∷ q) e = omega arith

-- The tokens of a pattern are its first and those of the bytes after that

tokens_drop : (k : ℕ) (p : Text) → tokens k p ≡ tokens 0 (drop k p)
unfolding tokens
tokens_drop zero p = refl
tokens_drop (suc k) [] = refl
tokens_drop (suc k) (c ∷ p) = tokens_drop k p

tokens_cons : (c : ℕ) (p : Text) (t : Token) → token_at c p ≡ t → tokens 0 (c ∷ p) ≡ t ∷ tokens 0 (drop (more t) p)
unfolding tokens
tokens_cons c p t e = rw (← e, tokens_drop (more (token_at c p)) p)

-- What is left of a pattern from i on matches, by the token at i

pub glob_end : (p : Text) (i : ℕ) → length p ≤ i → glob_of (drop i p) ≡ is_empty
unfolding glob_of tokens match_tokens
glob_end p i h = rw (drop_of_length-le p h)

module _ (p : Text) (i : ℕ) (h : i < length p) where
  -- n is the place after the token t
  glob_at : (t : Token) (n : ℕ) → i + 1 + more t ≡ n → token_at (get_or p i 0) (drop (i + 1) p) ≡ t → glob_of (drop i p) ≡ match_tokens (t ∷ tokens 0 (drop n p))
  unfolding glob_of
  glob_at t n k e =
      rw (← k, ← drop-drop (more t) (i + 1) p, drop-cons p i 0, ← add-one i) (ap match_tokens (tokens_cons (get_or p i 0) (drop (i + 1) p) t e))

  takes_token : (b : Bool) (c : ℕ) (ts : List Token) → match_tokens (cond b One (Byte c) ∷ ts) ≡ eat (λ x. cond b (no_slash x) (eqb x c)) (match_tokens ts)
  unfolding match_tokens
  takes_token true c ts = refl
  takes_token false c ts = refl

  more_none : (b : Bool) (c : ℕ) → more (cond b One (Byte c)) ≡ 0
  more_none true c = refl
  more_none false c = refl

  pub glob_byte : (get_or p i 0 ≡ star → ⊥) → glob_of (drop i p) ≡ eat (takes_of (get_or p i 0)) (glob_of (drop (i + 1) p))
  unfolding token_at glob_of
  glob_byte n =
      let c = get_or p i 0 in
      let b = eqb c question in
      glob_at (cond b One (Byte c)) (i + 1) (omega (arith, more_none b c)) (rw (ne_eqb c star n)) ∙ takes_token b c _

  module _ (e : get_or p i 0 ≡ star) where
    star_token : token_at (get_or p i 0) (drop (i + 1) p) ≡ after_star (drop (i + 1) p)
    unfolding token_at
    star_token = rw (eq-eqb _ _ e)

    pub glob_run : after_star (drop (i + 1) p) ≡ Run → glob_of (drop i p) ≡ after no_slash (glob_of (drop (i + 1) p))
    unfolding glob_of match_tokens
    glob_run t = glob_at Run (i + 1) (omega arith) (star_token ∙ t)

    pub glob_dirs : after_star (drop (i + 1) p) ≡ Dirs → glob_of (drop i p) ≡ after_dirs (glob_of (drop (i + 3) p))
    unfolding glob_of match_tokens
    glob_dirs t = glob_at Dirs (i + 3) (omega arith) (star_token ∙ t)

    pub glob_rest : after_star (drop (i + 1) p) ≡ Rest → glob_of (drop i p) ≡ (λ s. not (is_empty s))
    unfolding match_tokens
    glob_rest t = glob_at Rest (i + 2) (omega arith) (star_token ∙ t)
