-- A tame text by blocks of 64 bytes, of which the last may lie over the one before. Assumes nothing.
use mathlib.Core.Path.{◌≡◌, refl, sym, ap, ◌∙◌}
use mathlib.Core.List.{[], ◌∷◌, ◌++◌}
use mathlib.Core.Bool.{Bool, ◌&&◌}
use Prim.Native.Nat.{ℕ, ◌+◌, ◌-◌, ◌≤◌}
use native.Mathlib.Omega.{arith}
use Rattle.std.proofs.lemmas.Bool.Decides.{nat_tests}
use Rattle.std.proofs.lemmas.List.{take_all, take-append-drop}
use lib.ListN.{length, take, drop, length-drop}
use lib.Seq.{drop-drop, take-add}
use Rattle.text.specs.Bytes.{Text}
use Rattle.text.specs.Text.{each_of}
use Rattle.strings.specs.Scan.{tame_text}

tame_joined : (s t : Text) → tame_text (s ++ t) ≡ tame_text s && tame_text t
unfolding tame_text each_of
tame_joined [] t = refl
tame_joined (x ∷ s) t = let r = tame_joined s t in rw r (grind (arith, nat_tests))

-- b bytes more
tame_more : (a b : ℕ) (s : Text) → tame_text (take (a + b) s) ≡ tame_text (take a s) && tame_text (take b (drop a s))
tame_more a b s = ap tame_text (take-add a b s) ∙ tame_joined (take a s) (take b (drop a s))

-- and those from k on
tame_parts : (k : ℕ) (s : Text) → tame_text s ≡ tame_text (take k s) && tame_text (drop k s)
tame_parts k s = sym (ap tame_text (take-append-drop k s)) ∙ tame_joined (take k s) (drop k s)

-- A block by its vectors: l, m and n are what stands from the second, the third and the last on

pub tame_block : (s l m n : Text) → l ≡ drop 16 s → m ≡ drop 32 s → n ≡ drop 48 s
    → (tame_text (take 16 s) && tame_text (take 16 l)) && (tame_text (take 16 m) && tame_text (take 16 n)) ≡ tame_text (take 64 s)
tame_block s l m n d e f =
    let last : drop 16 (drop 32 s) ≡ drop 48 s = drop-drop 16 32 s in
    rw (d, e, f) (sym (tame_more 32 32 s ∙ rw (tame_more 16 16 s, tame_more 16 16 (drop 32 s), last) refl))

-- The blocks of s, where the last one ends with s

module _ (s l : Text) where
  pub last_block : 64 ≤ length s → l ≡ drop (length s - 64) s → tame_text (take 64 l) ≡ tame_text [] && tame_text (drop (length s - 64) s)
  unfolding tame_text each_of
  last_block h d = rw d (ap tame_text (take_all 64 (drop (length s - 64) s) (omega (arith, h, length-drop (length s - 64) s))))

  pub next_block : (i : ℕ) (r : Bool) → l ≡ drop i s → (tame_text (take i s) && r) && tame_text (take 64 l) ≡ tame_text (take (i + 64) s) && r
  next_block i r d = rw (d, tame_more i 64 s) (grind (arith, nat_tests))

-- the blocks before reach the last one
pub blocks_end : (s : Text) (n i : ℕ) → n ≤ i → tame_text (take i s) && tame_text (drop n s) ≡ tame_text s
blocks_end s n i h =
    let k : n + (i - n) ≡ i = omega (arith, h) in
    let more : tame_text (take i s) ≡ tame_text (take n s) && tame_text (take (i - n) (drop n s)) = ap (λ j. tame_text (take j s)) (sym k) ∙ tame_more n (i - n) s in
    rw (more, tame_parts n s, tame_parts (i - n) (drop n s)) (grind (arith, nat_tests))
