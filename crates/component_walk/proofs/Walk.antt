-- Laws of a text's first component. Assumes nothing.
use mathlib.Core.Path.{◌≡◌, refl, sym, ap, ◌∙◌}
use Rattle.std.proofs.lemmas.List.{nil_from_length}
use mathlib.Core.List.{List, [], ◌∷◌}
use mathlib.Core.Bool.{Bool, true, false, cond, true≢false}
use Prim.Native.Nat.{ℕ, suc, ◌+◌, ◌-◌, ◌≤◌, ◌<◌}
use native.Mathlib.Omega.{arith}
use lib.ListN.{length, take, drop, get_or, length-drop, length-take, length-append, drop_of_length-le}
use lib.Seq.{take_all, length-take-le}
use lib.Dec.{eqb}
use borrow.Author.Tests.{eqb-true, eqb-false}
use Rattle.text.specs.Bytes.{Text, slash, dot}
use Rattle.text.proofs.Picks.{by_test}
use Rattle.components.specs.Components.{on_first, split, piece_of, is_skip, starts, leads_dot, lead_of, names, heads, components, trim_start}
use Rattle.components.specs.Places.{first_of, piece_end}
use Rattle.components.proofs.Components.{LeadIs, empty, rooted, dot_only, dot_slash, plain, lead_is, starts_not, leads_other, leads_name}
use Rattle.components.proofs.Pieces.{by_split}
use Rattle.component_walk.specs.Walk.{pieces}

-- What is passed over at the front of a text

unled : (s : Text) → starts slash s ≡ false → leads_dot s ≡ false → trim_start (split s) ≡ pieces s
unfolding trim_start split starts leads_dot pieces piece_of
unled s a b = go (lead_is s) a b
  where
    some : (s p : Text) (ps : List Text) → split s ≡ p ∷ ps → is_skip (piece_of p) ≡ false → split s ≡ pieces s
    some [] p ps e k = let z : p ≡ [] = cc in absurd (true≢false (rw z at k))
    some (x ∷ s) p ps e k = refl

    whole : (s p : Text) (ps : List Text) → split s ≡ p ∷ ps → is_skip (piece_of p) ≡ false → trim_start (split s) ≡ split s
    whole s p ps e k = rw (e, k)

    go : {s : Text} → LeadIs s → starts slash s ≡ false → leads_dot s ≡ false → trim_start (split s) ≡ pieces s
    go empty a b = refl
    go (rooted t) a b = absurd (true≢false a)
    go dot_only a b = absurd (true≢false b)
    go (dot_slash t) a b = absurd (true≢false b)
    go (plain s _ _ p ps e k) a b = whole s p ps e k ∙ some s p ps e k

slash_lem : (t : Text) → 0 < length t → get_or t 0 0 ≡ slash → trim_start (split (drop 1 t)) ≡ trim_start (split t)
unfolding trim_start split piece_of
slash_lem [] h e = absurd (omega arith)
slash_lem (x ∷ t) h e = rw e refl

dot_lem : (t : Text) → 1 < length t → get_or t 0 0 ≡ dot → get_or t 1 0 ≡ slash → trim_start (split (drop 2 t)) ≡ trim_start (split t)
unfolding trim_start split on_first piece_of
dot_lem [] h e f = absurd (omega arith)
dot_lem (x ∷ []) h e f = absurd (omega arith)
dot_lem (x ∷ y ∷ t) h e f = rw (e, f) refl

module _ (t : Text) where
  pub front_slash : 0 < length t → get_or t 0 0 ≡ slash → trim_start (split (take (length t - 1) (drop 1 t))) ≡ trim_start (split t)
  front_slash h e = ap (λ (x : Text). trim_start (split x)) (take_all (length t - 1) (drop 1 t) (omega (arith, length-drop 1 t))) ∙ slash_lem t h e

  pub front_dot : 1 < length t → get_or t 0 0 ≡ dot → get_or t 1 0 ≡ slash → trim_start (split (take (length t - 2) (drop 2 t))) ≡ trim_start (split t)
  front_dot h e f = ap (λ (x : Text). trim_start (split x)) (take_all (length t - 2) (drop 2 t) (omega (arith, length-drop 2 t))) ∙ dot_lem t h e f

  pub front_only : length t ≡ 1 → get_or t 0 0 ≡ dot → trim_start (split t) ≡ pieces []
  unfolding trim_start split on_first piece_of pieces
  front_only h e = go t h e
    where
      go : (t : Text) → length t ≡ 1 → get_or t 0 0 ≡ dot → trim_start (split t) ≡ []
      go [] h e = absurd (omega arith)
      go (x ∷ []) h e = rw e refl
      go (x ∷ y ∷ t) h e = absurd (omega arith)

  pub front_none : length t ≡ 0 → trim_start (split t) ≡ pieces t
  unfolding trim_start split piece_of pieces
  front_none h = go t h
    where
      go : (t : Text) → length t ≡ 0 → trim_start (split t) ≡ pieces t
      go [] h = refl
      go (x ∷ t) h = absurd (omega arith)

  pub front_plain : 0 < length t → (get_or t 0 0 ≡ slash → ⊥) → (get_or t 0 0 ≡ dot → ⊥) → trim_start (split t) ≡ pieces t
  front_plain h n m = unled t (sym (starts_not slash t n)) (sym (leads_other t h m))

  pub front_dots : 1 < length t → get_or t 0 0 ≡ dot → (get_or t 1 0 ≡ slash → ⊥) → trim_start (split t) ≡ pieces t
  front_dots h e n = unled t (sym (starts_not slash t (λ f. let z : slash ≡ dot = sym f ∙ e in omega arith))) (sym (leads_name t h n))

-- what is left of it, from its length and its first bytes
pub ruleset fronts = (front_slash, front_dot, front_only, front_none, front_plain, front_dots)

-- The first piece of a text, e bytes long, and what stands behind it

pub record Parted (u : Text) (e : ℕ) : Type 0 where
  pub within : e ≤ length u
  pub others : List Text
  pub whole : split u ≡ take e u ∷ others
  pub behind : split (drop e u) ≡ [] ∷ others

parted_lem : (u : Text) → Parted u (length (first_of (split u)))
unfolding split on_first
parted_lem [] = record { within = omega arith; others = []; whole = refl; behind = refl }
parted_lem (x ∷ u) = go (eqb x slash) refl (parted_lem u)
  where
    go : (t : Bool) → eqb x slash ≡ t → Parted u (length (first_of (split u))) → Parted (x ∷ u) (length (first_of (cond t ([] ∷ split u) (on_first x (split u)))))
    go true t p = record { within = omega arith; others = split u; whole = rw t; behind = rw t }
    go false f p =
        let e : on_first x (split u) ≡ (x ∷ take (length (first_of (split u))) u) ∷ p.others = ap (on_first x) p.whole in
        let l : length (first_of (on_first x (split u))) ≡ suc (length (first_of (split u))) =
        ap (λ (ps : List Text). length (first_of ps)) e ∙ ap suc (length-take-le (length (first_of (split u))) u p.within) in
        rw l (record { within = omega (arith, p.within); others = p.others; whole = rw f e; behind = p.behind })

pub names_from : (ps : List Text) → names (trim_start ps) ≡ names ps
unfolding names trim_start
names_from [] = refl
names_from (p ∷ ps) = by_test (is_skip (piece_of p)) (λ t. rw t (names_from ps)) (λ f. rw f (rw f))

trim_head : (ps : List Text) (p : Text) (qs : List Text) → trim_start ps ≡ p ∷ qs → is_skip (piece_of p) ≡ false
unfolding trim_start
trim_head [] p qs e = absurd (omega (arith, ap length e))
trim_head (q ∷ ps) p qs e = by_test (is_skip (piece_of q)) (λ t. trim_head ps p qs (rw t at e)) (λ f. let z : q ∷ ps ≡ p ∷ qs = rw f at e in let y : q ≡ p = cc in rw (← y) f)

-- u is s from its first component on, and e where that ends
module _ (s u : Text) (d : pieces u ≡ trim_start (split s)) (e : ℕ) (h : e ≡ piece_end 0 u) where
  parted : Parted u e
  unfolding piece_end
  parted = let z : e ≡ length (first_of (split u)) = omega arith in rw z (parted_lem u)

  pub first_within : e ≤ length u
  first_within = parted.within

  first_some : 0 < length u → trim_start (split s) ≡ take e u ∷ parted.others
  unfolding pieces
  first_some n = sym d ∙ go u n ∙ parted.whole
    where
      go : (u : Text) → 0 < length u → pieces u ≡ split u
      go [] n = absurd (omega arith)
      go (x ∷ u) n = refl

  first_kept : 0 < length u → is_skip (piece_of (take e u)) ≡ false
  first_kept n = trim_head (split s) (take e u) parted.others (first_some n)

  first_none : length (take e u) ≡ 0 → u ≡ []
  unfolding piece_of
  first_none z = by_test (eqb (length u) 0) (λ t. nil_from_length u (eqb-true (length u) 0 t)) (λ f. let n = eqb-false (length u) 0 f in absurd (kept_not (take e u) z (first_kept (omega arith))))
    where
      kept_not : (p : Text) → length p ≡ 0 → is_skip (piece_of p) ≡ false → ⊥
      kept_not [] z k = let y : ◌≡◌ {A = ℕ} 0 1 = cc in omega arith
      kept_not (x ∷ p) z k = omega arith

  -- f and t are the two parts, r what the code gives
  module _ (f t : Text) (x : f ≡ take e u) (y : t ≡ drop e u) where
    pub takes_none : length f ≡ 0 → (trim_start (split s) ≡ []) × ((names (split s) ≡ []) × (names (split t) ≡ []))
    unfolding pieces split names piece_of
    takes_none z =
        let n : u ≡ [] = first_none (ap length (sym x) ∙ z) in
        let a : trim_start (split s) ≡ [] = sym d ∙ ap pieces n in
        (a, (sym (names_from (split s)) ∙ ap names a, ap (λ (v : Text). names (split v)) (y ∙ ap (drop e) n ∙ drop_of_length-le [] {i = e} (omega arith))))

    pub takes_some : 0 < length f → ((ps : List Text) × (trim_start (split s) ≡ f ∷ ps) × (split t ≡ [] ∷ ps)) × (names (split s) ≡ f ∷ names (split t))
    unfolding names piece_of
    takes_some n = let m : 0 < length u = omega (arith, ap length x, length-take e u) in
        let a : trim_start (split s) ≡ f ∷ parted.others = rw x (first_some m) in
        let b : split t ≡ [] ∷ parted.others = rw y parted.behind in
        let k : is_skip (piece_of f) ≡ false = rw x (first_kept m) in
        ((parted.others, a, b), rw (← names_from (split s), a, k, b))

-- How many components there are

names_less : (p : Text) (ps : List Text) → length (names ps) ≤ length (names (p ∷ ps))
unfolding names
names_less p ps = by_test (is_skip (piece_of p)) (λ t. rw t (omega arith)) (λ f. rw f (omega arith))

names_more : (p : Text) (ps : List Text) → length (names (p ∷ ps)) ≤ suc (length (names ps))
unfolding names
names_more p ps = by_test (is_skip (piece_of p)) (λ t. rw t (omega arith)) (λ f. rw f (omega arith))

pub names_le : (s : Text) → length (names (split s)) ≤ length s
unfolding names split on_first piece_of
names_le [] = omega arith
names_le (x ∷ s) =
    by_test (eqb x slash)
    (λ t. rw t (omega (arith, names_le s)))
    (λ f. by_split s (λ p ps e. let h : length (names (p ∷ ps)) ≤ length s = rw e at (names_le s) in rw (f, e) (omega (arith, h, names_less p ps, names_more (x ∷ p) ps))))

pub lead_small : (s : Text) → length (lead_of s) ≤ 1
unfolding lead_of
lead_small s = by_test (starts slash s) (λ y. rw y (omega arith)) (λ f. by_test (leads_dot s) (λ y. rw (f, y) (omega arith)) (λ g. rw (f, g) (omega arith)))

heads_lead : (s : Text) → length (heads s) ≡ length (lead_of s)
unfolding heads lead_of
heads_lead s = by_test (starts slash s) (λ y. rw y refl) (λ f. by_test (leads_dot s) (λ y. rw (f, y) refl) (λ g. rw (f, g) refl))

pub counted : (s : Text) → length (lead_of s) + length (names (split s)) ≡ length (components s)
unfolding components
counted s = omega (arith, heads_lead s, length-append (heads s) (names (split s)))
