-- Laws of a text's pieces. Assumes nothing.
use mathlib.Core.Path.{◌≡◌, refl, sym}
use Rattle.std.specs.List.{slice_split, onto_first}
use Rattle.std.proofs.lemmas.Option.{none-some, same_Some}
use mathlib.Core.List.{List, [], ◌∷◌}
use mathlib.Core.Bool.{Bool, true, false, cond}
use Prim.Native.Nat.{ℕ, suc, ◌+◌, ◌-◌, ◌≤◌, ◌<◌, max}
use native.Mathlib.Omega.{arith}
use native.Mathlib.Numerals.{add-one}
use lib.ListN.{length, take, drop, get_or, length-drop}
use lib.Seq.{length-take-le}
use lib.Dec.{eqb}
use borrow.Author.Tests.{eq-eqb, ne_eqb}
use Rattle.text.specs.Bytes.{Text, slash, dot}
use Rattle.text.specs.Text.{find_from, find}
use Rattle.std.specs.Prelude.{Option, Some, None}
use Rattle.components.specs.Components.{on_first, split, piece_of}
use Rattle.components.specs.Places.{piece_end}
use Rattle.components.specs.declared.Piece.TheVariants.{Skip, Up, Name}
use Rattle.text.proofs.Picks.{by_test}

-- which piece it is

pub piece_none : (p : Text) → length p ≡ 0 → Skip ≡ piece_of p
unfolding piece_of
piece_none [] h = refl
piece_none (a ∷ p) h = absurd (omega arith)

pub piece_long : (p : Text) → 2 < length p → Name ≡ piece_of p
unfolding piece_of
piece_long [] h = absurd (omega arith)
piece_long (a ∷ []) h = absurd (omega arith)
piece_long (a ∷ b ∷ []) h = absurd (omega arith)
piece_long (a ∷ b ∷ c ∷ p) h = refl

pub piece_name : (p : Text) → 0 < length p → (get_or p 0 0 ≡ dot → ⊥) → Name ≡ piece_of p
unfolding piece_of
piece_name [] h n = absurd (omega arith)
piece_name (a ∷ []) h n = rw (ne_eqb a dot n)
piece_name (a ∷ b ∷ []) h n = rw (ne_eqb a dot n)
piece_name (a ∷ b ∷ c ∷ p) h n = refl

pub piece_dot : (p : Text) → length p ≡ 1 → get_or p 0 0 ≡ dot → Skip ≡ piece_of p
unfolding piece_of
piece_dot [] h e = absurd (omega arith)
piece_dot (a ∷ []) h e = rw (eq-eqb a dot e)
piece_dot (a ∷ b ∷ p) h e = absurd (omega arith)

pub piece_dot_name : (p : Text) → 1 < length p → (get_or p 1 0 ≡ dot → ⊥) → Name ≡ piece_of p
unfolding piece_of
piece_dot_name [] h n = absurd (omega arith)
piece_dot_name (a ∷ []) h n = absurd (omega arith)
piece_dot_name (a ∷ b ∷ []) h n = rw (ne_eqb b dot n) (either (eqb a dot))
  where
    either : (t : Bool) → Name ≡ cond t Name Name
    either true = refl
    either false = refl
piece_dot_name (a ∷ b ∷ c ∷ p) h n = refl

pub piece_up : (p : Text) → length p ≡ 2 → get_or p 0 0 ≡ dot → get_or p 1 0 ≡ dot → Up ≡ piece_of p
unfolding piece_of
piece_up [] h e f = absurd (omega arith)
piece_up (a ∷ []) h e f = absurd (omega arith)
piece_up (a ∷ b ∷ []) h e f = rw (eq-eqb a dot e, eq-eqb b dot f)
piece_up (a ∷ b ∷ c ∷ p) h e f = absurd (omega arith)

-- whichever it is, from its length and its bytes
pub ruleset kinds = (piece_none, piece_dot, piece_up, piece_long, piece_name, piece_dot_name)

-- the first piece, and those after its slash

split_all : (s : Text) (j : ℕ) → find_from slash j s ≡ None → split s ≡ s ∷ []
unfolding split find_from on_first
split_all [] j e = refl
split_all (x ∷ s) j e = by_test (eqb x slash) (λ t. absurd (none-some j (sym (rw t at e)))) (λ f. rw (f, split_all s (suc j) (rw f at e)))

split_first : (s : Text) (j i : ℕ) → find_from slash j s ≡ Some i → (j ≤ i) × ((i < j + length s) × (split s ≡ take (i - j) s ∷ split (drop (suc (i - j)) s)))
unfolding split find_from on_first
split_first [] j i e = absurd (none-some i e)
split_first (x ∷ s) j i e =
    by_test (eqb x slash)
    (λ t.
    let k : j ≡ i = same_Some j i (rw t at e) in
    let z : i - j ≡ 0 = omega arith in
    (omega arith, (omega arith, rw (t, z))))
    (λ f.
    let ih = split_first s (suc j) i (rw f at e) in
    let z : i - j ≡ suc (i - suc j) = omega arith in
    (omega arith, (omega arith, rw (f, z, ih.1.1))))

pub pieces_one : (s : Text) → None ≡ find slash s → split s ≡ s ∷ []
pieces_one s e = split_all s 0 (sym e)

module _ (s : Text) (i : ℕ) (e : Some i ≡ find slash s) where
  pub slash_within : i < length s
  slash_within = let h = split_first s 0 i (sym e) in omega arith

  pub pieces_more : split s ≡ take i s ∷ split (drop (i + 1) s)
  pieces_more =
      let y : i - 0 ≡ i = omega arith in
      rw y at (rw (← add-one) at (split_first s 0 i (sym e)).1.1)

-- where a piece ends: t is what the code looks through, r what it found

module _ (s : Text) (at : ℕ) (t : Text) (d : t ≡ drop at s) (r : Option ℕ) (f : r ≡ find slash t) where
  pub end_last : r ≡ None → max (length s) at ≡ piece_end at s
  unfolding piece_end
  end_last n = rw (pieces_one (drop at s) (rw (n, d) at f), length-drop at s) (omega arith)

  module _ (i : ℕ) (e : r ≡ Some i) where
    found : Some i ≡ find slash (drop at s)
    found = rw (e, d) at f

    pub end_slash : at + i ≡ piece_end at s
    unfolding piece_end
    end_slash =
        rw (pieces_more (drop at s) i found, length-take-le i (drop at s) (omega (arith, slash_within (drop at s) i found)))

    pub end_within : at + i < length s
    end_within = omega (arith, slash_within (drop at s) i found, length-drop at s)

-- there is always a first piece

on_first_some : (x : ℕ) (ps : List Text) → 0 < length (on_first x ps)
unfolding on_first
on_first_some x [] = omega arith
on_first_some x (p ∷ ps) = omega arith

pub split_some : (s : Text) → 0 < length (split s)
unfolding split
split_some [] = omega arith
split_some (x ∷ s) = by_test (eqb x slash) (λ t. rw t (omega arith)) (λ f. rw f (on_first_some x (split s)))

pub by_split : {X : Type 0} (s : Text) → ((p : Text) (ps : List Text) → split s ≡ p ∷ ps → X) → X
by_split {X} s f = go (split s) (split_some s) f
  where
    go : (l : List Text) → 0 < length l → ((p : Text) (ps : List Text) → l ≡ p ∷ ps → X) → X
    go [] n f = absurd (omega arith)
    go (p ∷ ps) n f = f p ps refl

-- The pieces as std cuts them

first_as_std : (x : ℕ) (q : List Text) → onto_first x q ≡ on_first x q
unfolding on_first
first_as_std x [] = refl
first_as_std x (p ∷ ps) = refl

pub split_as_std : (s : Text) → slice_split (λ (x : ℕ). eqb x slash) s ≡ split s
unfolding split
split_as_std [] = refl
split_as_std (x ∷ s) = rw (split_as_std s, first_as_std x (split s)) refl
