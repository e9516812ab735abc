-- The extends entries of a record as the code holds them.
use Rattle.std.specs.Prelude.{ℕ, ◌<◌, ◌≡◌, List, [], ◌∷◌, map, Bool, true, false, not, cond, ◌&&◌, ◌||◌, eqb, length, take}
use Rattle.std.specs.Prelude.{Option, Some, None}
use Rattle.text.specs.Bytes.{Text, slash, dot}
use Rattle.text.specs.Text.{find}
use Rattle.join.specs.Join.{normalize_with}
use Rattle.book.specs.Find.{locate}
use Rattle.book.specs.Sound.{All}
use Rattle.tsconfig.specs.Parsed.{Parsed}
use Rattle.tsconfig_resolver.specs.Line as line
use Rattle.tsconfig_resolver.specs.Find.{reached, seen}
use Rattle.entries.specs.declared.lists.Entry.{Entry}
use Rattle.entries.specs.declared.lists.Entry.TheVariants.{Leads, Missing, Bare, Empty}
use Rattle.entries.specs.declared.lists.Entries.{Entries}

-- an entry in the words of the definition
abbrev pub entry_of : Entry → line.Entry
entry_of (Leads i) = line.leads i
entry_of Missing = line.missing
entry_of Bare = line.bare
entry_of Empty = line.empty

abbrev pub entries_of : List Entry → List line.Entry
entries_of es = map entry_of es

-- the entry leads to one of n records, if to any
pub record Inside (n : ℕ) (e : Entry) : Type 0 where
  pub inside : (i : ℕ) → e ≡ Leads i → i < n

-- nothing was found
abbrev pub is_nothing : Option ℕ → Bool
is_nothing (Some i) = false
is_nothing None = true

-- the path is `./` and one name that does not begin with a dot
unfoldable pub is_beside : Text → Bool
is_beside [] = false
is_beside (a ∷ []) = false
is_beside (a ∷ b ∷ []) = false
is_beside (a ∷ b ∷ c ∷ s) = eqb a dot && (eqb b slash && (not (eqb c dot) && is_nothing (find slash (c ∷ s))))

-- what an extends entry leads to, from a directory and among the paths
unfoldable pub entry_at : List Text → Text → Text → line.Entry
entry_at paths dir [] = line.empty
entry_at paths dir (x ∷ s) = cond (eqb x slash || eqb x dot) (reached (locate paths (normalize_with dir (x ∷ s)))) line.bare

-- these are the extends entries of the record c
pub record EntriesOf (rs : List Parsed) (c : ℕ) (e : Entries) : Type 0 where
  pub entries : entries_of (take e.count e.all) ≡ (seen rs).entries c
  pub inside : All (Inside (length rs)) (take e.count e.all)
