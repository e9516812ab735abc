-- Laws of where the pieces and the components of a text stand. Assumes nothing.
use mathlib.Core.Path.{◌≡◌, refl, sym, ap}
use mathlib.Core.List.{List, [], ◌∷◌}
use mathlib.Core.Bool.{Bool, true, false, and-false}
use mir.Val.{bool_byte}
use Prim.Native.Nat.{ℕ, ◌≤◌, ◌<◌}
use native.Mathlib.Omega.{arith}
use lib.ListN.{length, take, get_or, length-take}
use lib.Dec.{eqb}
use borrow.Author.Tests.{eq-eqb, ne_eqb, eqb-true}
use Rattle.text.specs.Bytes.{Text, slash, dot}
use Rattle.components.specs.Components.{on_first, split, piece_of, is_skip, starts, leads_dot, lead_of, rest_of, names}
use Rattle.text.proofs.Picks.{by_test}
use Rattle.components.proofs.Pieces.{by_split}

-- The lead of a text

pub starts_none : (c : ℕ) (s : Text) → length s ≡ 0 → false ≡ starts c s
unfolding starts
starts_none c [] h = refl
starts_none c (x ∷ s) h = absurd (omega arith)

pub starts_yes : (c : ℕ) (s : Text) → 0 < length s → get_or s 0 0 ≡ c → true ≡ starts c s
unfolding starts
starts_yes c [] h e = absurd (omega arith)
starts_yes c (x ∷ s) h e = sym (eq-eqb x c e)

pub starts_not : (c : ℕ) (s : Text) → (get_or s 0 0 ≡ c → ⊥) → false ≡ starts c s
unfolding starts
starts_not c [] h = refl
starts_not c (x ∷ s) h = sym (ne_eqb x c h)

-- whether it begins with the byte, from its length and that byte
pub ruleset firsts = (starts_none, starts_yes, starts_not)

pub leads_none : (s : Text) → length s ≡ 0 → false ≡ leads_dot s
unfolding leads_dot
leads_none [] h = refl
leads_none (x ∷ s) h = absurd (omega arith)

pub leads_other : (s : Text) → 0 < length s → (get_or s 0 0 ≡ dot → ⊥) → false ≡ leads_dot s
unfolding leads_dot
leads_other [] h n = absurd (omega arith)
leads_other (x ∷ []) h n = rw (ne_eqb x dot n)
leads_other (x ∷ y ∷ s) h n = rw (ne_eqb x dot n)

pub leads_one : (s : Text) → length s ≡ 1 → get_or s 0 0 ≡ dot → true ≡ leads_dot s
unfolding leads_dot
leads_one [] h e = absurd (omega arith)
leads_one (x ∷ []) h e = rw (eq-eqb x dot e)
leads_one (x ∷ y ∷ s) h e = absurd (omega arith)

pub leads_slash : (s : Text) → 1 < length s → get_or s 0 0 ≡ dot → get_or s 1 0 ≡ slash → true ≡ leads_dot s
unfolding leads_dot
leads_slash [] h e f = absurd (omega arith)
leads_slash (x ∷ []) h e f = absurd (omega arith)
leads_slash (x ∷ y ∷ s) h e f = rw (eq-eqb x dot e, eq-eqb y slash f)

pub leads_name : (s : Text) → 1 < length s → (get_or s 1 0 ≡ slash → ⊥) → false ≡ leads_dot s
unfolding leads_dot
leads_name [] h n = absurd (omega arith)
leads_name (x ∷ []) h n = absurd (omega arith)
leads_name (x ∷ y ∷ s) h n = rw (ne_eqb y slash n, and-false)

-- whether it leads, from its length and its bytes
pub ruleset leads = (leads_none, leads_one, leads_slash, leads_other, leads_name)

pub lead_rooted : (s : Text) → true ≡ starts slash s → length (lead_of s) ≡ 1
unfolding lead_of
lead_rooted s e = rw (← e)

pub lead_other : (s : Text) (b : Bool) → false ≡ starts slash s → b ≡ leads_dot s → length (lead_of s) ≡ bool_byte b
unfolding lead_of
lead_other s true e f = rw (← e, ← f)
lead_other s false e f = rw (← e, ← f)

-- which lead it is, and what follows it
pub data LeadIs : Text → Type 0 where
  empty : LeadIs []
  rooted : (t : Text) → LeadIs (slash ∷ t)
  dot_only : LeadIs (dot ∷ [])
  dot_slash : (t : Text) → LeadIs (dot ∷ slash ∷ t)
  plain : (s : Text) → starts slash s ≡ false → leads_dot s ≡ false → (p : Text) (ps : List Text) → split s ≡ p ∷ ps → is_skip (piece_of p) ≡ false → LeadIs s

two_kept : (x y : ℕ) (p : Text) → is_skip (piece_of (x ∷ y ∷ p)) ≡ false
unfolding piece_of
two_kept x y [] = by_test (eqb x dot) (λ t. rw t (by_test (eqb y dot) (λ u. rw u) (λ u. rw u))) (λ f. rw f)
two_kept x y (z ∷ p) = refl

-- a piece is kept that is neither empty nor `.`
pub kept : (p : Text) → (length p ≡ 0 → ⊥) → (length p ≡ 1 → get_or p 0 0 ≡ dot → ⊥) → is_skip (piece_of p) ≡ false
unfolding piece_of
kept [] n m = absurd (n refl)
kept (x ∷ []) n m = rw (ne_eqb x dot (m refl))
kept (x ∷ y ∷ p) n m = two_kept x y p

one_kept : (x : ℕ) (p : Text) → eqb x dot ≡ false → is_skip (piece_of (x ∷ p)) ≡ false
unfolding piece_of
one_kept x [] f = rw f
one_kept x (y ∷ p) f = two_kept x y p

after_dot_lem : (s : Text) → LeadIs (dot ∷ s)
unfolding starts leads_dot split on_first
after_dot_lem [] = dot_only
after_dot_lem (y ∷ s) =
    by_test (eqb y slash)
    (λ t. rw (eqb-true y slash t) (dot_slash s))
    (λ f. by_split s (λ p ps e. plain (dot ∷ y ∷ s) refl (rw f) (dot ∷ y ∷ p) ps (rw (f, e)) (two_kept dot y p)))

pub lead_is : (s : Text) → LeadIs s
unfolding starts leads_dot split on_first
lead_is [] = empty
lead_is (x ∷ s) =
    by_test (eqb x slash)
    (λ t. rw (eqb-true x slash t) (rooted s))
    (λ f. by_test (eqb x dot)
    (λ t. rw (eqb-true x dot t) (after_dot_lem s))
    (λ g. by_split s (λ p ps e. plain (x ∷ s) f (no_dot s g) (x ∷ p) ps (rw (f, e)) (one_kept x p g))))
  where
    no_dot : (s : Text) → eqb x dot ≡ false → leads_dot (x ∷ s) ≡ false
    no_dot [] g = g
    no_dot (y ∷ s) g = rw g

pub lead_front : (s : Text) → take (length (lead_of s)) s ≡ lead_of s
unfolding lead_of starts leads_dot
lead_front s = go (lead_is s)
  where
    go : {s : Text} → LeadIs s → take (length (lead_of s)) s ≡ lead_of s
    go empty = refl
    go (rooted t) = refl
    go dot_only = refl
    go (dot_slash t) = refl
    go (plain s a b p ps e k) = rw (a, b)

pub lead_le : (s : Text) → length (lead_of s) ≤ length s
lead_le s = omega (arith, ap length (lead_front s), length-take (length (lead_of s)) s)

-- the lead holds no name
pub names_rest : (s : Text) → names (split (rest_of s)) ≡ names (split s)
unfolding lead_of starts leads_dot split on_first names piece_of
names_rest s = go (lead_is s)
  where
    go : {s : Text} → LeadIs s → names (split (rest_of s)) ≡ names (split s)
    go empty = refl
    go (rooted t) = refl
    go dot_only = refl
    go (dot_slash t) = refl
    go (plain s a b p ps e k) = rw (a, b)
