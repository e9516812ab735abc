-- Laws of file names and extensions. Assumes nothing.
use mathlib.Core.Path.{◌≡◌, refl, sym, ap, ◌∙◌}
use native.Mathlib.Omega.{arith}
use mathlib.Core.List.{List, [], ◌∷◌}
use mathlib.Core.Bool.{Bool, true, false, cond}
use Rattle.std.specs.Prelude.{Option, Some, None, option_copied}
use Rattle.std.specs.Bool.{then_some}
use denote.Ref.{Bor}
use Prim.Native.Nat.{ℕ, zero, suc, ◌<◌}
use native.Mathlib.Numerals.{add-one}
use lib.ListN.{length, take, drop}
use lib.Seq.{length-take-le, drop-drop}
use Rattle.text.specs.Bytes.{Text, slash, dot}
use Rattle.text.specs.Text.{each_of, find_last}
use Rattle.components.specs.Components.{split, piece_of, is_name, is_skip, names}
use Rattle.ends.specs.Ends.{joined, ending, trim_end, last_of, last_piece, if_name, file_name, after_dot, extension_of, extension}
use Rattle.text.proofs.Picks.{by_test}
use Rattle.ends.proofs.Ends.{last_within, lacks, split_bare, split_joined, trim_each}

-- The file name: the last of the pieces up to the last component

last_names : (x : Text) (ps : List Text) → last_of x (names ps) ≡ last_of x (trim_end ps)
unfolding names trim_end ending last_of
last_names x [] = refl
last_names x (p ∷ ps) = go (trim_end ps) (λ (y : Text). last_names y ps)
  where
    go : (l : List Text) → ((y : Text) → last_of y (names ps) ≡ last_of y l) → last_of x (names (p ∷ ps)) ≡ last_of x (ending p l)
    go [] ih = by_test (is_skip (piece_of p)) (λ t. rw t (ih x)) (λ f. rw f (ih p))
    go (q ∷ l) ih = by_test (is_skip (piece_of p)) (λ t. rw t (ih x)) (λ f. rw f (ih p))

last_of_trimmed : (s : Text) → last_piece (joined (trim_end (split s))) ≡ last_of [] (trim_end (split s))
unfolding last_piece last_of joined split
last_of_trimmed s = go (trim_end (split s)) (trim_each (lacks slash) (split s) (split_bare s))
  where
    go : (l : List Text) → each_of (lacks slash) l ≡ true → last_of [] (split (joined l)) ≡ last_of [] l
    go [] h = refl
    go (q ∷ l) h = rw (split_joined q l h)

-- p is the last piece of what the code keeps of s, r whether it is a name
pub named : (s : Text) (p : Bor Text) → p.now ≡ last_piece (joined (trim_end (split s))) → (r : Bool) → r ≡ is_name (piece_of p.now) → option_copied (then_some r p) ≡ file_name s
unfolding file_name if_name
named s p d r k =
    let e : p.now ≡ last_of [] (names (split s)) = d ∙ last_of_trimmed s ∙ sym (last_names [] (split s)) in
    rw (← e, ← k) (go r)
  where
    go : (r : Bool) → option_copied (then_some r p) ≡ cond r (Some p.now) None
    go true = refl
    go false = refl

-- The extension: q is the file name
module _ (s : Text) (q : Option Text) (h : q ≡ file_name s) where
  pub extension_missing : q ≡ None → None ≡ extension s
  unfolding extension extension_of
  extension_missing m = rw (← h, m)

  module _ (t : Text) (m : q ≡ Some t) (f : Option ℕ) (g : f ≡ find_last dot t) where
    extension_is : extension s ≡ after_dot f t
    unfolding extension extension_of
    extension_is = rw (← h, m, g)

    pub extension_none : f ≡ None → None ≡ extension s
    unfolding after_dot
    extension_none n = rw (extension_is, n)

    -- i is where the last dot stands, p what stands before it
    module _ (i : ℕ) (n : f ≡ Some i) where
      pub extension_within : i < length t
      extension_within = last_within dot t i (sym n ∙ g)

      module _ (p : Text) (c : p ≡ take i t) where
        stem_is : length p ≡ i
        stem_is = ap length c ∙ length-take-le i t (omega (arith, extension_within))

        pub extension_hidden : length p ≡ 0 → None ≡ extension s
        unfolding after_dot
        extension_hidden e = let z : i ≡ 0 = omega (arith, stem_is) in rw (extension_is, n, z)

        pub extension_some : (length p ≡ 0 → ⊥) → (u r : Text) → u ≡ drop i t → r ≡ drop 1 u → Some r ≡ extension s
        unfolding after_dot
        extension_some e u r x y = rw (extension_is, n, y, x, drop-drop 1 i t, add-one) (go i (λ z. e (stem_is ∙ z)))
          where
            go : (i : ℕ) → (i ≡ 0 → ⊥) → Some (drop (suc i) t) ≡ after_dot (Some i) t
            go zero z = absurd (z refl)
            go (suc i) z = refl
