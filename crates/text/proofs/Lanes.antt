-- Sixteen bytes looked at in one step, by the lanes of vectors: what a lane holds, and the bytes by their places. Assumes nothing.
use mathlib.Core.Path.{◌≡◌, refl}
use mathlib.Core.List.{List, map}
use mathlib.Core.Bool.{Bool, true, false, cond, ◌&&◌, ◌||◌}
use Prim.Native.Nat.{ℕ, ◌+◌, ◌≤◌}
use lib.Bits.{bit_and, bit_or}
use lib.Lanes.{chunk, top}
use lib.ListN.{length, get_or}
use Rattle.std.proofs.lemmas.List.FromFn.{fill_by_all}
use Rattle.std.proofs.lemmas.Simd.{length-chunk, get_or-chunk}
use Rattle.std.specs.List.{range_with_len}
use Rattle.text.specs.Bytes.{Text}

-- what a lane holds where a test passes, and where not
abbrev pub set : Bool → ℕ
set b = cond b 255 0

pub and_set : (a b : Bool) → bit_and (set a) (set b) ≡ set (a && b)
and_set true true = refl
and_set true false = refl
and_set false true = refl
and_set false false = refl

pub or_set : (a b : Bool) → bit_or (set a) (set b) ≡ set (a || b)
or_set true true = refl
or_set true false = refl
or_set false true = refl
or_set false false = refl

pub top_set : (a : Bool) → top 7 (set a) ≡ a
top_set true = refl
top_set false = refl

-- the places of a block
unfoldable pub places : List ℕ
places = range_with_len 0 16

pub sixteen : length places ≡ 16
unfolding places
sixteen = refl

-- sixteen bytes of s by their places
pub bytes_from : (s : Text) (j : ℕ) → j + 16 ≤ length s → chunk j 16 s ≡ map (λ k. get_or s (j + k) 0) places
unfolding places
bytes_from s j h = fill_by_all (λ k. get_or s (j + k) 0) (chunk j 16 s) 16 0 (length-chunk j 16 s h) (λ k l. get_or-chunk j 16 s k 0 l)
