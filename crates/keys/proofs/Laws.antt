-- Laws of a key's match and of the piece that its star stood for. Assumes nothing.
use Rattle.std.proofs.Common.{◌≡◌, ℕ, ◌+◌, ◌-◌, ◌≤◌, ◌<◌, Bool, true, false, ◌&&◌, eqb, leb, [], ◌∷◌, length, take, drop, Option, Some, None, Bor, refl, sym, ap, ◌∙◌, add-one, arith}
use mathlib.Core.Bool.{and-false}
use Rattle.std.specs.Option.{MatchOption, option_copied}
use Rattle.std.specs.Cmp.Lexicographic.{pointwise}
use lib.Seq.{length-take-le, drop-drop}
use borrow.Author.Tests.{le-leb, lt-leb, leb-true, leb-false}
use Rattle.text.specs.Bytes.{Text}
use Rattle.text.specs.Text.{prefix_of, same_text, star_of, between}
use Rattle.text.proofs.Picks.{by_test}
use Rattle.text.proofs.Scans.{find_within, same_is}
use Rattle.keys.specs.Keys.{prefix, suffix, matches_at, part_at, key_part, is_match}

-- as the code tests it
pub as_tested :
    (key s : Text) (i : ℕ) → i < length key →
    matches_at key i s
    ≡ (leb (i + length (drop (i + 1) key)) (length s) && (prefix_of (take i key) s && same_text (drop (length s - length (drop (i + 1) key)) s) (drop (i + 1) key)))
unfolding matches_at
as_tested key s i inside = let h : i ≤ length key = omega arith in rw (add-one i, length-take-le i key h)

-- what `strip_prefix` compares
begins : (p s : Text) → pointwise eqb (take (length p) s) p ≡ prefix_of p s
unfolding prefix_of
begins [] s = refl
begins (x ∷ p) [] = refl
begins (x ∷ p) (y ∷ s) = rw (begins p s) refl

-- what the star search found
module _ (key s : Text) (r : Option ℕ) (f : r ≡ star_of key) where
  no_star : r ≡ None → key_part key s ≡ None
  unfolding key_part part_at
  no_star n = rw (← f, n)

  pub none_told : r ≡ None → false ≡ is_match (key_part key s)
  none_told n = rw (no_star n)

  pub none_part : r ≡ None → None ≡ key_part key s
  none_part n = sym (no_star n)

  module _ (i : ℕ) (e : r ≡ Some i) where
    pub star_in : i < length key
    star_in = find_within _ key i (rw e at f)

    no_match : matches_at key i s ≡ false → key_part key s ≡ None
    unfolding key_part part_at
    no_match n = rw (← f, e, n)

    match : matches_at key i s ≡ true → key_part key s ≡ Some (between i (length s - length (suffix key i)) s)
    unfolding key_part part_at
    match n = rw (← f, e, n)

    pub miss_told : (b : Bool) → b ≡ matches_at key i s → b ≡ false → false ≡ is_match (key_part key s)
    miss_told b q n = rw (no_match (sym q ∙ n))

    pub match_told : (b : Bool) → b ≡ matches_at key i s → b ≡ true → true ≡ is_match (key_part key s)
    match_told b q n = rw (match (sym q ∙ n))

    -- the bytes before the star are not those that the specifier begins with
    pub prefix_missed : pointwise eqb (take (length (take i key)) s) (take i key) ≡ false → None ≡ key_part key s
    unfolding matches_at
    prefix_missed n = sym (no_match (rw (sym (begins (take i key) s) ∙ n) (and-false (leb (length (prefix key i) + length (suffix key i)) (length s)))))

    -- the first i bytes are those before the star, and rest is what follows them; suf is what follows the star
    module _ (rest suf : Text) (p : pointwise eqb (take (length (take i key)) s) (take i key) ≡ true) (d : rest ≡ drop (length (take i key)) s) (n : length rest + length (take i key) ≡ length s) (g : suf ≡ drop (i + 1) key) where
      rest_is : rest ≡ drop i s
      rest_is = let z : length (take i key) ≡ i = length-take-le i key (omega (arith, star_in)) in rw z at d

      counted : length rest + i ≡ length s
      counted = omega (arith, n, length-take-le i key (omega (arith, star_in)))

      suffix_is : suffix key i ≡ suf
      suffix_is = sym (rw add-one at g)

      tail_same : length suf ≤ length rest → drop (length s - length suf) s ≡ drop (length rest - length suf) rest
      tail_same h = let z : length s - length suf ≡ i + (length rest - length suf) = omega (arith, counted) in rw (z, ← drop-drop (length rest - length suf) i s, ← rest_is)

      reads : length suf ≤ length rest → matches_at key i s ≡ pointwise eqb (drop (length rest - length suf) rest) suf
      unfolding matches_at
      reads h =
          let k : leb (length (prefix key i) + length (suffix key i)) (length s) ≡ true = le-leb _ _ (omega (arith, counted, length-take-le i key (omega (arith, star_in)), ap length suffix_is)) in
          rw (k, sym (begins (take i key) s) ∙ p, suffix_is, tail_same h) (sym (same_is (drop (length rest - length suf) rest) suf))

      short : length rest < length suf → matches_at key i s ≡ false
      unfolding matches_at
      short h =
          let k : leb (length (prefix key i) + length (suffix key i)) (length s) ≡ false = lt-leb _ _ (omega (arith, counted, length-take-le i key (omega (arith, star_in)), ap length suffix_is)) in
          rw k

      piece_same : take (length rest - length suf) rest ≡ between i (length s - length (suffix key i)) s
      piece_same = let z : length s - length suf - i ≡ length rest - length suf = omega (arith, counted) in rw (suffix_is, z, rest_is)

      pub piece_is :
          (r : Option (Bor Text)) → MatchOption r (pointwise eqb (drop (length rest - length suf) rest) suf ≡ false) (λ x. (pointwise eqb (drop (length rest - length suf) rest) suf ≡ true) × (x.now ≡ take (length rest - length suf) rest) × (length x.now + length suf ≡ length rest)) →
          option_copied r ≡ key_part key s
      piece_is None h = sym (no_match (by_test (leb (length suf) (length rest)) (λ t. reads (leb-true _ _ t) ∙ h) (λ t. short (leb-false _ _ t))))
      piece_is (Some x) h = ap (λ (t : Text). Some t) (h.1 ∙ piece_same) ∙ sym (match (reads (omega (arith, h.2)) ∙ h.0))
