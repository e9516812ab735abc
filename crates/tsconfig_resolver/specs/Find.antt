-- What an extends entry or a reference of a record leads to, and the configs that the load sees.
use Rattle.std.specs.Prelude.{ℕ, List, [], ◌∷◌, map, cond, ◌||◌, eqb, length, get_or}
use Rattle.std.specs.Prelude.{Option, Some, None, option_map}
use Rattle.text.specs.Bytes.{Text, slash, dot}
use Rattle.ends.specs.Ends.{parent_of}
use Rattle.join.specs.Join.{normalize_with}
use Rattle.book.specs.Find.{locate}
use Rattle.tsconfig.specs.Config.{Field}
use Rattle.tsconfig.specs.Parsed.{Value, Parsed}
use Rattle.tsconfig_resolver.specs.Line.{Configs, Entry, empty, bare, missing, leads}

-- what stands where there is no record
abbrev pub blank : Parsed
blank = record { path = []; extended = []; references = []; says = λ f. None; base = [] }

-- the record with the number
abbrev pub record_at : List Parsed → ℕ → Parsed
record_at rs c = get_or rs c blank

-- its path
abbrev pub path_at : List Parsed → ℕ → Text
path_at rs c = (record_at rs c).path

-- the paths of the records
abbrev pub paths_of : List Parsed → List Text
paths_of rs = map (λ r. r.path) rs

-- the record that an extends entry or a reference of the record c means: get_extended_tsconfig_path, normalize_with
unfoldable pub meant : List Parsed → ℕ → Text → Option ℕ
meant rs c s = locate (paths_of rs) (normalize_with (parent_of (path_at rs c)) s)

-- "8: no such config" where nothing is found
abbrev pub reached : Option ℕ → Entry
reached (Some p) = leads p
reached None = missing

-- what an extends entry of the record c leads to: "11: empty extends entry", "12: extends starts with neither `/` nor `.`"
unfoldable pub entry : List Parsed → ℕ → Text → Entry
entry rs c [] = empty
entry rs c (x ∷ s) = cond (eqb x slash || eqb x dot) (reached (meant rs c (x ∷ s))) bare

-- each value beside the record that supplies it
pub record Supplied (A : Type 0) : Type 0 where
  pub value : A
  pub by : ℕ

-- a value of a field, with its supplier
abbrev pub SuppliedValue : Field → Type 0
SuppliedValue f = Supplied (Value f)

-- the configs that the load sees: "Each record enters as parsed, with its own paths base."
abbrev pub seen : List Parsed → Configs SuppliedValue (Supplied Text)
seen rs =
    record {
      size = length rs;
      own =
          λ c. record {
            named = λ f. option_map (λ v. record { value = v; by = c }) ((record_at rs c).says f);
            base = record { value = (record_at rs c).base; by = c };
          };
      entries = λ c. map (entry rs c) (record_at rs c).extended;
    }
