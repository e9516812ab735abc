-- The choice of a key, one after the other. Assumes nothing.
use Rattle.std.proofs.Common.{◌≡◌, ℕ, suc, ◌+◌, ◌≤◌, ◌<◌, Bool, true, false, ◌&&◌, List, [], ◌∷◌, eqb, Option, Some, None, refl, sym, ap, ◌∙◌, add-one, lt-ltb, le-ltb, arith}
use mathlib.Core.Bool.{and-false}
use Rattle.std.specs.Cmp.Lexicographic.{pointwise}
use Rattle.text.specs.Bytes.{Text}
use Rattle.text.specs.Text.{same_text, star_of}
use Rattle.text.proofs.Scans.{same_as_std}
use Rattle.keys.specs.Keys.{matches_at, key_part, is_match}
use Rattle.keys.proofs.Laws.{none_told, miss_told, match_told}
use Rattle.book.specs.Record.{Key}
use Rattle.tsconfig.specs.Mapping.{equal_key, prefix_len, longer, best_key}
use Rattle.choice.specs.Keyed.{least_of}

-- the equal key, where no key is left, and where k is the first of those that are

pub equal_end : (s : Text) → equal_key s [] ≡ None
unfolding equal_key
equal_end s = refl

module _ (s : Text) (k : Key) (ks : List Key) (b : Bool) (q : b ≡ pointwise eqb k.key s) where
  same : b ≡ same_text k.key s
  same = same_as_std b k.key s q

  pub equal_taken : b ≡ true → equal_key s (k ∷ ks) ≡ Some k
  unfolding equal_key
  equal_taken y = rw (sym same ∙ y) refl

  pub equal_other : b ≡ false → equal_key s (k ∷ ks) ≡ equal_key s ks
  unfolding equal_key
  equal_other n = rw (sym same ∙ n) refl

-- the best wildcard, where no key is left
pub best_end : (s : Text) (b : Option Key) → best_key s b [] ≡ b
unfolding best_key
best_end s b = refl

-- the best wildcard, where k is the first of the keys that are left and b the best before it

module _ (s : Text) (b : Option Key) (k : Key) (ks : List Key) where
  passed : (is_match (key_part k.key s) && longer b k) ≡ false → best_key s b (k ∷ ks) ≡ best_key s b ks
  unfolding best_key
  passed e = rw e

  module _ (f : Option ℕ) (g : f ≡ star_of k.key) where
    pub best_bare : f ≡ None → best_key s b (k ∷ ks) ≡ best_key s b ks
    best_bare n = passed (rw (sym (none_told k.key s f g n)))

    module _ (star : ℕ) (h : f ≡ Some star) where
      prefix_is : prefix_len (star_of k.key) ≡ star
      unfolding prefix_len
      prefix_is = rw (← g, h)

      pub least_taken : star + 1 ≡ least_of (Some k)
      least_taken = add-one star ∙ ap suc (sym prefix_is)

      module _ (least : ℕ) (l : least ≡ least_of b) where
        not_longer : (o : Option Key) → least ≡ least_of o → star < least → longer o k ≡ false
        unfolding longer
        not_longer None z n = absurd (omega (arith, z, n))
        not_longer (Some o) z n = rw prefix_is (le-ltb (prefix_len (star_of o.key)) star (omega (arith, z, n)))

        is_longer : (o : Option Key) → least ≡ least_of o → least ≤ star → longer o k ≡ true
        unfolding longer
        is_longer None z n = refl
        is_longer (Some o) z n = rw prefix_is (lt-ltb (prefix_len (star_of o.key)) star (omega (arith, z, n)))

        pub best_shorter : star < least → best_key s b (k ∷ ks) ≡ best_key s b ks
        best_shorter n = passed (rw (not_longer b l n) (and-false (is_match (key_part k.key s))))

        module _ (m : Bool) (q : m ≡ matches_at k.key star s) where
          pub best_other : m ≡ false → best_key s b (k ∷ ks) ≡ best_key s b ks
          best_other n = passed (rw (sym (miss_told k.key s f g star h m q n)))

          pub best_taken : m ≡ true → least ≤ star → best_key s b (k ∷ ks) ≡ best_key s (Some k) ks
          unfolding best_key
          best_taken y n = rw (sym (match_told k.key s f g star h m q y), is_longer b l n)
