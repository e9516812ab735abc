-- The code holds for each field the record that supplies it. So: each value of a loaded config is what its supplier says, and so is the base.
use mathlib.Core.Path.{◌≡◌, refl, sym, subst}
use mathlib.Core.List.{List, [], ◌∷◌}
use Rattle.std.specs.Prelude.{Option, Some, None, option_map, unwrap_or}
use Prim.Native.Nat.{ℕ}
use lib.ListN.{get_or}
use Rattle.text.specs.Bytes.{Text}
use Rattle.tsconfig.specs.Config.{Field, base_url, paths, ◌or_else◌, first, base_if}
use Rattle.tsconfig.specs.Parsed.{Value, Parsed}
use Rattle.tsconfig_resolver.specs.Line.{line}
use Rattle.tsconfig_resolver.specs.Load.{Loaded}
use Rattle.tsconfig_resolver.specs.Demand3.{LineRule}
use Rattle.tsconfig_resolver.specs.Find.{Supplied, SuppliedValue, blank, seen}

-- a value is what its supplier says of the field
abbrev Told : List Parsed → (f : Field) → Option (Supplied (Value f)) → Type 0
Told rs f None = Unit {0}
Told rs f (Some v) = (get_or rs v.by blank).says f ≡ Some v.value

told_own : (rs : List Parsed) (f : Field) (c : ℕ) → Told rs f (((seen rs).own c).named f)
told_own rs f c = go ((get_or rs c blank).says f) refl
  where
    go : (o : Option (Value f)) → (get_or rs c blank).says f ≡ o → Told rs f (option_map (λ v. record { value = v; by = c }) o)
    go None e = tt
    go (Some v) e = e

told_or : (rs : List Parsed) (f : Field) (o p : Option (Supplied (Value f))) → Told rs f o → Told rs f p → Told rs f (o or_else p)
told_or rs f None p h k = k
told_or rs f (Some v) p h k = h

told_first : (rs : List Parsed) (f : Field) (l : List ℕ) → Told rs f (first (λ i. ((seen rs).own i).named f) l)
told_first rs f [] = tt
told_first rs f (i ∷ l) =
    told_or rs f (((seen rs).own i).named f) (first (λ j. ((seen rs).own j).named f) l) (told_own rs f i) (told_first rs f l)

-- what the supplier, if there is one, says of the field
abbrev pub said : (rs : List Parsed) (f : Field) → Option ℕ → Option (Value f)
said rs f None = None
said rs f (Some i) = (get_or rs i blank).says f

told_said : (rs : List Parsed) (f : Field) (o : Option (Supplied (Value f))) → Told rs f o →
    option_map (λ v. v.value) o ≡ said rs f (option_map (λ v. v.by) o)
told_said rs f None h = refl
told_said rs f (Some v) h = sym h

-- each field of a loaded config is what the record that supplies it says
pub read_field : (rs : List Parsed) (c : ℕ) (r : Loaded SuppliedValue (Supplied Text)) → LineRule (seen rs) c r → (f : Field) →
    option_map (λ v. v.value) (r.config.named f) ≡ said rs f (option_map (λ v. v.by) (r.config.named f))
read_field rs c r h f = told_said rs f (r.config.named f) (subst (Told rs f) (sym (h.field f)) (told_first rs f (line (seen rs) c)))

-- a base is its supplier's
abbrev Stands : List Parsed → Supplied Text → Type 0
Stands rs b = b.value ≡ (get_or rs b.by blank).base

abbrev MayStand : List Parsed → Option (Supplied Text) → Type 0
MayStand rs None = Unit {0}
MayStand rs (Some b) = Stands rs b

may_or : (rs : List Parsed) (f : Field) (i : ℕ) (o : Option (Supplied (Value f))) (p : Option (Supplied Text)) → MayStand rs p →
    MayStand rs (option_map (λ v. ((seen rs).own i).base) o or_else p)
may_or rs f i None p h = h
may_or rs f i (Some v) p h = refl

may_first : (rs : List Parsed) (f : Field) (l : List ℕ) → MayStand rs (first (λ i. base_if f ((seen rs).own i)) l)
may_first rs f [] = tt
may_first rs f (i ∷ l) = may_or rs f i (((seen rs).own i).named f) (first (λ j. base_if f ((seen rs).own j)) l) (may_first rs f l)

stands_or : (rs : List Parsed) (o : Option (Supplied Text)) (b : Supplied Text) → MayStand rs o → Stands rs b → Stands rs (unwrap_or o b)
stands_or rs None b h k = k
stands_or rs (Some a) b h k = h

pub read_base : (rs : List Parsed) (c : ℕ) (r : Loaded SuppliedValue (Supplied Text)) → LineRule (seen rs) c r →
    r.config.base.value ≡ (get_or rs r.config.base.by blank).base
read_base rs c r h =
    subst (Stands rs) (sym h.base)
    (stands_or rs (first (λ i. base_if base_url ((seen rs).own i)) (line (seen rs) c)) _ (may_first rs base_url (line (seen rs) c))
    (stands_or rs (first (λ i. base_if paths ((seen rs).own i)) (line (seen rs) c)) _ (may_first rs paths (line (seen rs) c)) refl))
