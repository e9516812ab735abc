-- The contracts of the load of a config's references, and of the config with them.
use Rattle.std.specs.Prelude.{length}
use Rattle.std.specs.Prelude.{ℕ, ◌+◌, ◌<◌, ◌≤◌, ◌≡◌, List, map, Bool, false, replicate, take}
use Rattle.std.specs.Prelude.{Result, Ok, Err}
use Rattle.book.specs.Answer.{Answer, given}
use Rattle.book.specs.Refusals.{refusal}
use Rattle.book.specs.Sound.{All}
use Rattle.book.specs.declared.Refusal.{Refusal}
use Rattle.tsconfig.specs.Parsed.{Parsed}
use Rattle.tsconfig.specs.Claims.{Site}
use Rattle.tsconfig_resolver.specs.Project.{Referred, load_record}
use Rattle.rows.specs.Rows.{number_of, site_of, Row}
use Rattle.load.specs.Loads.{records_of, state_of, reach, Table}
use Rattle.load.specs.declared.Loads.{Loads}
use Rattle.references.specs.declared.Project.{Project}

-- no record on the chain
abbrev pub nobody : List Bool
nobody = replicate 64 false

-- what the load of the record r asks, as a reference or for its references
pub record ReferPre (l : Loads) (r : ℕ) : Type 0 where
  pub table : Table (records_of l) l.table
  pub inside : r < length l.checked.now.book.paths.rows.now
  pub few : 8 + reach nobody l ≤ 65536

-- a reference that is loaded, and what is loaded after it, of the same book
pub record Refer (was : Loads) (most : ℕ) (a : Answer Referred) (now : Loads) (x : List ℕ) : Type 0 where
  pub book : now.checked ≡ was.checked
  pub answer : a ≡ given (record { site = site_of (records_of was) x; state = state_of (records_of was) now.table now.merges })
  pub row : Row (records_of was) x
  pub table : Table (records_of was) now.table
  pub few : reach nobody now ≤ most

-- what is told of a reference
abbrev pub ReferAs : Loads → ℕ → Answer Referred → Loads → Result (List ℕ) Refusal → Type 0
ReferAs was most a now (Err r) = a ≡ refusal r
ReferAs was most a now (Ok x) = Refer was most a now x

-- the same as one claim
pub record Refers (was : Loads) (most : ℕ) (a : Answer Referred) (now : Loads) (r : Result (List ℕ) Refusal) : Type 0 where
  pub told : ReferAs was most a now r

-- the configs of rows
abbrev pub sites_of : List Parsed → List (List ℕ) → List Site
sites_of rs rows = map (site_of rs) rows

-- k references that are loaded
pub record Listed (rs : List Parsed) (a : Answer (List Site)) (refs : List (List ℕ)) (k : ℕ) : Type 0 where
  pub answer : a ≡ given (sites_of rs (take k refs))
  pub few : k ≤ 16
  pub rows : All (Row rs) (take k refs)

-- what is told of the references
abbrev pub ListedAs : List Parsed → Answer (List Site) → List (List ℕ) → Result ℕ Refusal → Type 0
ListedAs rs a refs (Err r) = a ≡ refusal r
ListedAs rs a refs (Ok k) = Listed rs a refs k

-- the same as one claim
pub record Lists (rs : List Parsed) (a : Answer (List Site)) (refs : List (List ℕ)) (r : Result ℕ Refusal) : Type 0 where
  pub told : ListedAs rs a refs r

-- a config that is loaded with its references
pub record Opened (rs : List Parsed) (c : ℕ) (p : Project) : Type 0 where
  pub answer : load_record rs c ≡ given (record { site = site_of rs p.row; references = sites_of rs (take p.count p.references); merges = p.merges })
  pub row : Row rs p.row
  pub own : number_of p.row ≡ c
  pub few : p.count ≤ 16
  pub rows : All (Row rs) (take p.count p.references)
  pub small : p.merges ≤ 65536

-- what is told of the load of a config with its references
abbrev pub WholeAs : List Parsed → ℕ → Result Project Refusal → Type 0
WholeAs rs c (Err r) = load_record rs c ≡ refusal r
WholeAs rs c (Ok p) = Opened rs c p
