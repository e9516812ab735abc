-- Merge and flat look into no value: they go through any map of values and bases. So what carries a supplier beside each value has, with the
-- suppliers dropped, the old merge and the old flat config.
-- Assumes nothing.
use mathlib.Core.Path.{◌≡◌, refl, sym, ap, ap₂, ◌∙◌}
use mathlib.Core.List.{List, [], ◌∷◌, map}
use Rattle.std.specs.Prelude.{Option, Some, None, option_map, unwrap_or}
use Rattle.tsconfig.proofs.Flat.{last_map}
use Rattle.tsconfig.specs.Config.{Field, base_url, paths, Config, ◌or_else◌, first, last, base_if, merge, flat, mapped}

map_or_else : {A C : Type 0} (g : A → C) (o p : Option A) → option_map g (o or_else p) ≡ option_map g o or_else option_map g p
map_or_else g (Some a) p = refl
map_or_else g None p = refl

map_get_d : {A C : Type 0} (g : A → C) (o : Option A) (a : A) → g (unwrap_or o a) ≡ unwrap_or (option_map g o) (g a)
map_get_d g (Some x) a = refl
map_get_d g None a = refl

map_const : {A C D E : Type 0} (g : D → E) (h : A → C) (o : Option A) (d : D) →
    option_map g (option_map (λ v. d) o) ≡ option_map (λ v. g d) (option_map h o)
map_const g h (Some a) d = refl
map_const g h None d = refl

map_first : {A C R S : Type 0} (f : A → C) (g : R → S) (k : A → Option R) (l : C → Option S) → ((a : A) → option_map g (k a) ≡ l (f a)) →
    (xs : List A) → option_map g (first k xs) ≡ first l (map f xs)
map_first f g k l h [] = refl
map_first f g k l h (a ∷ xs) = map_or_else g (k a) (first k xs) ∙ ap₂ ◌or_else◌ (h a) (map_first f g k l h xs)

module _ {Val Wal : Field → Type 0} {B C : Type 0} (g : (f : Field) → Val f → Wal f) (h : B → C) where
  map_base : (f : Field) (c : Config Val B) → option_map h (base_if f c) ≡ base_if f (mapped g h c)
  unfolding mapped
  map_base f c = map_const h (g f) (c.named f) c.base

  merge_base : (x y : Config Val B) → h (merge x y).base ≡ (merge (mapped g h x) (mapped g h y)).base
  unfolding merge mapped
  merge_base x y =
      map_get_d h (base_if base_url x or_else base_if base_url y) (unwrap_or (base_if paths x) y.base)
      ∙ ap₂ unwrap_or
      (map_or_else h (base_if base_url x) (base_if base_url y) ∙ ap₂ ◌or_else◌ (map_base base_url x) (map_base base_url y))
      (map_get_d h (base_if paths x) y.base ∙ ap (λ o. unwrap_or o (h y.base)) (map_base paths x))

  pub map_merge : (x y : Config Val B) → mapped g h (merge x y) ≡ merge (mapped g h x) (mapped g h y)
  unfolding merge mapped
  map_merge x y = λ i. record { named = λ f. map_or_else (g f) (x.named f) (y.named f) i; base = merge_base x y i }

  flat_base : (x : Config Val B) (xs : List (Config Val B)) → h (flat x xs).base ≡ (flat (mapped g h x) (map (mapped g h) xs)).base
  unfolding flat mapped
  flat_base x xs =
      map_get_d h (first (base_if base_url) (x ∷ xs)) (unwrap_or (first (base_if paths) (x ∷ xs)) (last x xs).base)
      ∙ ap₂ unwrap_or (map_first (mapped g h) h (base_if base_url) (base_if base_url) (map_base base_url) (x ∷ xs))
      (map_get_d h (first (base_if paths) (x ∷ xs)) (last x xs).base
      ∙ ap₂ unwrap_or (map_first (mapped g h) h (base_if paths) (base_if paths) (map_base paths) (x ∷ xs))
      (sym (ap (λ d. d.base) (last_map (mapped g h) x xs))))

  pub map_flat : (x : Config Val B) (xs : List (Config Val B)) → mapped g h (flat x xs) ≡ flat (mapped g h x) (map (mapped g h) xs)
  unfolding flat mapped
  map_flat x xs =
      λ i. record {
        named = λ f. map_first (mapped g h) (g f) (λ d. d.named f) (λ d. d.named f) (λ d. refl) (x ∷ xs) i;
        base = flat_base x xs i;
      }
