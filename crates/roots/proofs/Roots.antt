-- The choice of a root dir, one after the other. Assumes nothing.
use Rattle.std.proofs.Common.{◌≡◌, ℕ, suc, ◌+◌, ◌≤◌, ◌<◌, Bool, true, false, ◌&&◌, List, [], ◌∷◌, length, Option, Some, None, refl, ap, lt-ltb, le-ltb, arith}
use mathlib.Core.Bool.{and-false}
use Rattle.text.specs.Bytes.{Text}
use Rattle.path.specs.Path.{under}
use Rattle.tsconfig.specs.Parsed.{placed}
use Rattle.tsconfig.specs.Mapping.{longer_text, root_above}
use Rattle.values.proofs.Lengths.{placed_length, substituted_length}
use Rattle.roots.specs.Roots.{built_place}

pub place_length : (dir own s : Text) → length (built_place dir own s) ≤ length dir + length own + length s + 2
place_length dir own s = omega (arith, placed_length own s, substituted_length dir (placed own s))

-- how long a root dir must be to be better than the best so far
abbrev pub least_of : Option Text → ℕ
least_of None = 0
least_of (Some b) = suc (length b)

-- of root dirs of which none is left
pub root_end : (p : Text) (b : Option Text) (rs : List Text) → rs ≡ [] → root_above p b rs ≡ b
unfolding root_above
root_end p b rs e = rw e

-- r is the first of the root dirs that are left, read as v, and b the best before it
module _ (p : Text) (b : Option Text) (r : Text) (rs : List Text) where
  passed : (under p r && longer_text b r) ≡ false → root_above p b (r ∷ rs) ≡ root_above p b rs
  unfolding root_above
  passed e = rw e

  module _ (v : Text) (e : v ≡ r) (least : ℕ) (l : least ≡ least_of b) where
    not_longer : (o : Option Text) → least ≡ least_of o → length v < least → longer_text o r ≡ false
    unfolding longer_text
    not_longer None z n = absurd (omega (arith, z, n))
    not_longer (Some x) z n = le-ltb (length x) (length r) (omega (arith, z, n, ap length e))

    is_longer : (o : Option Text) → least ≡ least_of o → least ≤ length v → longer_text o r ≡ true
    unfolding longer_text
    is_longer None z n = refl
    is_longer (Some x) z n = lt-ltb (length x) (length r) (omega (arith, z, n, ap length e))

    pub root_shorter : length v < least → root_above p b (r ∷ rs) ≡ root_above p b rs
    root_shorter n = passed (rw (not_longer b l n) (and-false (under p r)))

    module _ (m : Bool) (q : m ≡ under p v) where
      pub root_other : m ≡ false → root_above p b (r ∷ rs) ≡ root_above p b rs
      root_other n = passed (rw (← e, ← q, n))

      pub root_taken : m ≡ true → least ≤ length v → root_above p b (r ∷ rs) ≡ root_above p (Some r) rs
      unfolding root_above
      root_taken y n = rw (is_longer b l n) (rw (← e, ← q, y))
