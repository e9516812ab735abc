-- A config's inherited fields and its paths base, the merge of two, and the flat config of a line.
use Rattle.std.specs.Prelude.{List, [], ◌∷◌, ℕ}
use Rattle.std.specs.Prelude.{Option, Some, None, option_map, unwrap_or}

-- "Inherited are files, include, exclude, baseUrl, paths, rootDirs, outDir, declarationDir, each flag, each text option."
pub data Field : Type 0 where
  files include exclude base_url paths root_dirs out_dir declaration_dir : Field
  flag text : ℕ → Field

-- What a config says: a value for each field that it names, and its paths base. `Val f` is what a value of the field f is:
-- the value as parsed, or the record that supplies it, or both. Nothing below looks into it.
pub record Config (Val : Field → Type 0) (B : Type 0) : Type 0 where
  pub named : (f : Field) → Option (Val f)
  pub base : B

-- the first answer, if there is one, else the other
infixr 40 ◌or_else◌
abbrev pub ◌or_else◌ : {A : Type 0} → Option A → Option A → Option A
◌or_else◌ (Some a) o = Some a
◌or_else◌ None o = o

-- what the first of the list to answer g says
abbrev pub first : {A R : Type 0} → (A → Option R) → List A → Option R
first g [] = None
first g (a ∷ l) = g a or_else first g l

-- the last of a list that begins with a
abbrev pub last : {A : Type 0} → A → List A → A
last a [] = a
last a (b ∷ bs) = last b bs

module _ {Val : Field → Type 0} {B : Type 0} where
  -- the config's base, if it names the field
  abbrev pub base_if : Field → Config Val B → Option B
  base_if f c = option_map (λ v. c.base) (c.named f)

  -- "Merging two, nearer first: a field is the nearer's if named, else the other's; the base is the nearer's if it names baseUrl, else the
  -- other's if that does, else the nearer's if it names paths, else the other's." TsConfig::extend_tsconfig
  unfoldable pub merge : Config Val B → Config Val B → Config Val B
  merge a b =
      record {
        named = λ f. a.named f or_else b.named f;
        base = unwrap_or (base_if base_url a or_else base_if base_url b) (unwrap_or (base_if paths a) b.base);
      }

  -- The flat config (01's term) of a line, its nearest and the rest. Demand 3: "In its flat config each inherited field is that of the first in the line to name it, and
  -- the paths base that of the first naming baseUrl, else of the first naming paths, else of the last in the line"
  unfoldable pub flat : Config Val B → List (Config Val B) → Config Val B
  flat c cs =
      record {
        named = λ f. first (λ d. d.named f) (c ∷ cs);
        base =
            unwrap_or (first (base_if base_url) (c ∷ cs))
            (unwrap_or (first (base_if paths) (c ∷ cs)) (last c cs).base);
      }

-- a config with each value and the base sent on
unfoldable pub mapped : {Val Wal : Field → Type 0} {B C : Type 0} → ((f : Field) → Val f → Wal f) → (B → C) → Config Val B → Config Wal C
mapped g h c = record { named = λ f. option_map (g f) (c.named f); base = h c.base }
