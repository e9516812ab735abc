-- Laws of paths compared by components, and of what is left of one after a directory. Assumes nothing.
use mathlib.Core.Path.{◌≡◌, refl, ap}
use Rattle.text.proofs.Scans.{same_eq}
use Rattle.std.proofs.lemmas.Bool.{and_parts}
use mathlib.Core.List.{List, [], ◌∷◌}
use mathlib.Core.Bool.{true, false, ◌&&◌}
use Prim.Native.Nat.{ℕ, ◌<◌}
use native.Mathlib.Omega.{arith}
use lib.ListN.{length, take}
use Rattle.text.specs.Bytes.{Text, slash, dot}
use Rattle.text.specs.Text.{each_of, same_text}
use Rattle.text.proofs.Picks.{by_test}
use Rattle.components.specs.Components.{split, piece_of, is_skip, starts, leads_dot, lead_of, names, heads, components}
use Rattle.components.proofs.Components.{LeadIs, empty, rooted, dot_only, dot_slash, plain, lead_is, lead_front}
use Rattle.ends.proofs.Ends.{lacks, split_bare}
use Rattle.path.specs.Path.{same_list, left_of, is_some, same_path, under}

-- A name is never a lead

differ : (a b : Text) → (a ≡ b → ⊥) → same_text a b ≡ false
differ a b n = by_test (same_text a b) (λ t. absurd (n (same_eq a b t))) (λ f. f)

-- what a lead is, and what its text is known to be
data Heads (s : Text) : Type 0 where
  unled : lead_of s ≡ [] → heads s ≡ [] → (0 < length s → names (split s) ≡ [] → ⊥) → Heads s
  led : (l : Text) → 0 < length l → lead_of s ≡ l → heads s ≡ l ∷ [] → (is_skip (piece_of l) ≡ false → lacks slash l ≡ true → ⊥) → Heads s

heads_of : (s : Text) → Heads s
unfolding lead_of heads starts leads_dot names lacks piece_of
heads_of s = go (lead_is s)
  where
    go : {s : Text} → LeadIs s → Heads s
    go empty = unled refl refl (λ h e. omega arith)
    go (rooted t) = led (slash ∷ []) (omega arith) refl refl (λ a b. let z : ◌≡◌ {A = ℕ} 0 1 = cc in omega arith)
    go dot_only = led (dot ∷ []) (omega arith) refl refl (λ a b. let z : ◌≡◌ {A = ℕ} 0 1 = cc in omega arith)
    go (dot_slash t) = led (dot ∷ []) (omega arith) refl refl (λ a b. let z : ◌≡◌ {A = ℕ} 0 1 = cc in omega arith)
    go (plain s a b p ps e k) = unled (rw (a, b)) (rw (a, b)) (λ h n. let z = ap length (rw (e, k) at n) in omega arith)

by_names : {X : Type 0} (s : Text) → (names (split s) ≡ [] → X) → ((c : Text) (cs : List Text) → names (split s) ≡ c ∷ cs → is_skip (piece_of c) ≡ false → lacks slash c ≡ true → X) → X
unfolding names each_of
by_names {X} s f g = go (split s) (split_bare s) f g
  where
    go : (ps : List Text) → each_of (lacks slash) ps ≡ true → (names ps ≡ [] → X) → ((c : Text) (cs : List Text) → names ps ≡ c ∷ cs → is_skip (piece_of c) ≡ false → lacks slash c ≡ true → X) → X
    go [] h f g = f refl
    go (p ∷ ps) h f g =
        by_test (is_skip (piece_of p))
        (λ t. go ps (and_parts (lacks slash p) _ h).1 (λ e. f (rw t e)) (λ c cs e. g c cs (rw t e)))
        (λ k. g p (names ps) (rw k) k (and_parts (lacks slash p) _ h).0)

-- so paths are compared by their leads and by their names
module _ (a b : Text) where
  pub same_by : same_path a b ≡ (same_text (lead_of a) (lead_of b) && same_list (names (split a)) (names (split b)))
  unfolding same_path components same_list same_text
  same_by = go (heads_of a) (heads_of b)
    where
      go : Heads a → Heads b → same_path a b ≡ (same_text (lead_of a) (lead_of b) && same_list (names (split a)) (names (split b)))
      go (unled x y z) (unled u v w) = rw (x, y, u, v)
      go (led l o x y z) (led m q u v w) = rw (x, y, u, v)
      go (led l o x y z) (unled u v w) =
          rw (x, y, u, v, differ l [] (λ e. let n = ap length e in omega arith))
          (by_names b (λ e. rw e) (λ c cs e k h. rw (e, differ l c (λ i. z (rw i k) (rw i h)))))
      go (unled x y z) (led l o u v w) =
          rw (x, y, u, v, differ [] l (λ e. let n = ap length e in omega arith))
          (by_names a (λ e. rw e) (λ c cs e k h. rw (e, differ c l (λ i. w (rw (← i) k) (rw (← i) h)))))

  pub under_by : 0 < length b → under a b ≡ (same_text (lead_of a) (lead_of b) && is_some (left_of (names (split a)) (names (split b))))
  unfolding under components left_of is_some same_text
  under_by some = go (heads_of a) (heads_of b)
    where
      go : Heads a → Heads b → under a b ≡ (same_text (lead_of a) (lead_of b) && is_some (left_of (names (split a)) (names (split b))))
      go (unled x y z) (unled u v w) = rw (x, y, u, v)
      go (led l o x y z) (led m q u v w) = rw (x, y, u, v) (by_test (same_text l m) (λ t. rw t) (λ f. rw f))
      go (led l o x y z) (unled u v w) =
          rw (x, y, u, v, differ l [] (λ e. let n = ap length e in omega arith))
          (by_names b (λ e. absurd (w some e)) (λ c cs e k h. rw (e, differ l c (λ i. z (rw i k) (rw i h)))))
      go (unled x y z) (led l o u v w) =
          rw (x, y, u, v, differ [] l (λ e. let n = ap length e in omega arith))
          (by_names a (λ e. rw e) (λ c cs e k h. rw (e, differ c l (λ i. w (rw (← i) k) (rw (← i) h)))))

-- m and n are the lengths of the leads, r and q their texts as the code cuts them
pub same_lead : (a b : Text) (m n : ℕ) → m ≡ length (lead_of a) → n ≡ length (lead_of b) → (r q : Text) → r ≡ take m a → q ≡ take n b → same_text r q ≡ same_text (lead_of a) (lead_of b)
same_lead a b m n e f r q x y = rw (x, y, e, f, lead_front a, lead_front b)
