-- The flat config of two lines, one after the other, is the merge of theirs; so every bracketing of a line ends in its flat config.
-- Assumes nothing.
use mathlib.Core.Path.{◌≡◌, refl, sym, ap, ap₂, ◌∙◌}
use mathlib.Core.List.{List, [], ◌∷◌, ◌++◌, map}
use Rattle.std.specs.Prelude.{Option, Some, None, option_map, unwrap_or}
use Rattle.tsconfig.specs.Config.{Field, base_url, paths, Config, ◌or_else◌, first, last, base_if, merge, flat}
use Rattle.tsconfig.specs.Bracket.{Tree, leaf, join, leaves, eval}

or_else_assoc : {A : Type 0} (o p q : Option A) → (o or_else p) or_else q ≡ o or_else p or_else q
or_else_assoc (Some a) p q = refl
or_else_assoc None p q = refl

pub first_append : {A R : Type 0} (g : A → Option R) (xs ys : List A) → first g (xs ++ ys) ≡ first g xs or_else first g ys
first_append g [] ys = refl
first_append g (x ∷ xs) ys = ap (g x or_else◌) (first_append g xs ys) ∙ sym (or_else_assoc (g x) (first g xs) (first g ys))

last_append : {A : Type 0} (x : A) (xs : List A) (y : A) (ys : List A) → last x (xs ++ y ∷ ys) ≡ last y ys
last_append x [] y ys = refl
last_append x (z ∷ xs) y ys = last_append z xs y ys

pub first_map : {A C R : Type 0} (f : A → C) (g : C → Option R) (l : List A) → first g (map f l) ≡ first (λ a. g (f a)) l
first_map f g [] = refl
first_map f g (a ∷ l) = ap (g (f a) or_else◌) (first_map f g l)

pub last_map : {A C : Type 0} (f : A → C) (a : A) (l : List A) → last (f a) (map f l) ≡ f (last a l)
last_map f a [] = refl
last_map f a (c ∷ l) = last_map f c l

or_else_none : {A : Type 0} (o : Option A) → o or_else None ≡ o
or_else_none (Some a) = refl
or_else_none None = refl

base_one : {A C B : Type 0} (o : Option A) (p : Option C) (b : B) →
    unwrap_or (option_map (λ v. b) o or_else None) (unwrap_or (option_map (λ v. b) p or_else None) b) ≡ b
base_one (Some a) p b = refl
base_one None (Some c) b = refl
base_one None None b = refl

-- a tree's first leaf, and the others
module _ {A : Type 0} where
  abbrev near : Tree A → A
  near (leaf a) = a
  near (join s t) = near s

  abbrev far : Tree A → List A
  far (leaf a) = []
  far (join s t) = far s ++ near t ∷ far t

  leaves_near : (t : Tree A) → leaves t ≡ near t ∷ far t
  leaves_near (leaf a) = refl
  leaves_near (join s t) = ap₂ ◌++◌ (leaves_near s) (leaves_near t)

-- two options that are there together
data Both {A R : Type 0} : Option A → Option R → Type 0 where
  neither : Both None None
  each : (a : A) (r : R) → Both (Some a) (Some r)

-- The merge's base: U, P are the bases of the first naming baseUrl and paths, there where the fields M, N are; L is the last's.
base_merge :
    {A C B : Type 0} {Mₐ Mᵦ : Option A} {N : Option C} {Uₐ Pₐ Uᵦ : Option B} →
    Both Mₐ Uₐ → Both N Pₐ → Both Mᵦ Uᵦ → (Pᵦ : Option B) (Lₐ Lᵦ : B) →
    unwrap_or (Uₐ or_else Uᵦ) (unwrap_or (Pₐ or_else Pᵦ) Lᵦ)
    ≡ unwrap_or
    (option_map (λ v. unwrap_or Uₐ (unwrap_or Pₐ Lₐ)) Mₐ or_else option_map (λ v. unwrap_or Uᵦ (unwrap_or Pᵦ Lᵦ)) Mᵦ)
    (unwrap_or (option_map (λ v. unwrap_or Uₐ (unwrap_or Pₐ Lₐ)) N) (unwrap_or Uᵦ (unwrap_or Pᵦ Lᵦ)))
base_merge (each a r) n u P L L' = refl
base_merge neither n (each b t) P L L' = refl
base_merge neither (each c p) neither P L L' = refl
base_merge neither neither neither P L L' = refl

both_or :
    {A R : Type 0} (o : Option A) (r : R) {p : Option A} {q : Option R} → Both p q →
    Both (o or_else p) (option_map (λ v. r) o or_else q)
both_or (Some a) r h = each a r
both_or None r h = h

module _ {Val : Field → Type 0} {B : Type 0} where
  both : (f : Field) (l : List (Config Val B)) → Both (first (λ d. d.named f) l) (first (base_if f) l)
  both f [] = neither
  both f (c ∷ l) = both_or (c.named f) c.base (both f l)

  module _ (x : Config Val B) (xs : List (Config Val B)) (y : Config Val B) (ys : List (Config Val B)) where
    base_append : (flat x (xs ++ y ∷ ys)).base ≡ (merge (flat x xs) (flat y ys)).base
    unfolding flat merge
    base_append =
        rw (
          first_append (base_if base_url) (x ∷ xs) (y ∷ ys),
          first_append (base_if paths) (x ∷ xs) (y ∷ ys),
          last_append x xs y ys,
        )
        (base_merge (both base_url (x ∷ xs)) (both paths (x ∷ xs)) (both base_url (y ∷ ys)) (first (base_if paths) (y ∷ ys)) (last x xs).base
        (last y ys).base)

    -- a line, and one after it
    pub flat_append : flat x (xs ++ y ∷ ys) ≡ merge (flat x xs) (flat y ys)
    unfolding flat merge
    flat_append = λ i. record { named = λ f. first_append (λ d. d.named f) (x ∷ xs) (y ∷ ys) i; base = base_append i }

  -- a line of one is its own result
  pub flat_one : (x : Config Val B) → flat x [] ≡ x
  unfolding flat
  flat_one x = λ i. record { named = λ f. or_else_none (x.named f) i; base = base_one (x.named base_url) (x.named paths) x.base i }

  -- Whichever way a line's merges are bracketed, its order kept, they end in its flat config.
  bracket_near : (t : Tree (Config Val B)) → eval merge t ≡ flat (near t) (far t)
  bracket_near (leaf x) = sym (flat_one x)
  bracket_near (join s t) = ap₂ merge (bracket_near s) (bracket_near t) ∙ sym (flat_append (near s) (far s) (near t) (far t))

  pub bracket : (x : Config Val B) (xs : List (Config Val B)) (t : Tree (Config Val B)) → leaves t ≡ x ∷ xs → eval merge t ≡ flat x xs
  bracket x xs t e = cc (bracket_near t, leaves_near t)

  pub merge_assoc : (x y z : Config Val B) → merge (merge x y) z ≡ merge x (merge y z)
  merge_assoc x y z = bracket x (y ∷ z ∷ []) (join (join (leaf x) (leaf y)) (leaf z)) refl
      ∙ sym (bracket x (y ∷ z ∷ []) (join (leaf x) (join (leaf y) (leaf z))) refl)
