-- What the load holds: a table of the rows that are loaded, and the chain; and the contracts of its steps.
use Rattle.std.specs.Prelude.{ℕ, ◌+◌, ◌*◌, ◌<◌, ◌≤◌, ◌≡◌, List, reverse, Bool, false, not, ◌&&◌, length, get_or}
use Rattle.std.specs.Prelude.{Option, Some, None, option_map, is_some, Result, Ok, Err}
use Rattle.text.specs.Bytes.{Text}
use Rattle.book.specs.Answer.{Answer}
use Rattle.book.specs.Refusals.{refusal}
use Rattle.book.specs.Sound.{All}
use Rattle.book.specs.declared.Refusal.{Refusal}
use Rattle.tsconfig.specs.Parsed.{Parsed}
use Rattle.tsconfig_resolver.specs.Line.{tally}
use Rattle.tsconfig_resolver.specs.Load.{Loaded as Gave, done, walk, load, parent}
use Rattle.tsconfig_resolver.specs.Find.{Supplied, SuppliedValue, seen}
use Rattle.tsconfig_resolver.specs.Project.{Merged, Store}
use Rattle.rows.specs.Rows.{number_of, config_of, Row}
use Rattle.rows.specs.Checked.{records_in}
use Rattle.entries.specs.declared.lists.Entry.{Entry}
use Rattle.entries.specs.declared.lists.Entry.TheVariants.{Leads}
use Rattle.entries.specs.Entries.{entry_of, entries_of, Inside}
use Rattle.load.specs.declared.Loads.{Loads}

-- the chain as a test
abbrev pub on_of : List Bool → ℕ → Bool
on_of on i = get_or on i false

-- the row of the record i, if it is loaded
abbrev pub held : List (Option (List ℕ)) → ℕ → Option (List ℕ)
held table i = get_or table i None

-- the configs that a table holds, where m merges were made
unfoldable pub state_of : List Parsed → List (Option (List ℕ)) → ℕ → Store
state_of rs table m = record { table = λ i. option_map (config_of rs) (held table i); merges = m }

-- how many records are neither on the chain nor loaded: each makes at most 8 merges
unfoldable pub pending : List Bool → List (Option (List ℕ)) → ℕ
pending on table = tally 64 (λ i. 1) (λ i. not (on_of on i) && not (is_some (held table i)))

-- the rows of a table are rows of records that are there, each of its own
pub record Table (rs : List Parsed) (table : List (Option (List ℕ))) : Type 0 where
  pub rows : (i : ℕ) (x : List ℕ) → held table i ≡ Some x → Row rs x
  pub own : (i : ℕ) (x : List ℕ) → held table i ≡ Some x → number_of x ≡ i

-- the records of the book that is loaded from
abbrev pub records_of : Loads → List Parsed
records_of l = records_in l.checked.now.book

-- what is loaded, as the definition holds it
abbrev pub state : Loads → Store
state l = state_of (records_of l) l.table l.merges

-- the merges that are made and those that are left to make under the chain
abbrev pub reach : List Bool → Loads → ℕ
reach on l = l.merges + 8 * pending on l.table

-- what a load gives
abbrev pub Gives : Type 0
Gives = Answer (Gave SuppliedValue (Supplied Text))

-- a load that gives the row of the record c, and what is loaded after it: of the same book, and with `most` merges within reach at most
pub record Went (was : Loads) (on : List Bool) (c most : ℕ) (a : Gives) (now : Loads) (x : List ℕ) : Type 0 where
  pub book : now.checked ≡ was.checked
  pub answer : a ≡ done (config_of (records_of was) x) (state_of (records_of was) now.table now.merges)
  pub row : Row (records_of was) x
  pub own : number_of x ≡ c
  pub table : Table (records_of was) now.table
  pub few : reach on now ≤ most

-- what is told of a load that answers a
abbrev pub ToldAs : Loads → List Bool → ℕ → ℕ → Gives → Loads → Result (List ℕ) Refusal → Type 0
ToldAs was on c most a now (Err r) = a ≡ refusal r
ToldAs was on c most a now (Ok x) = Went was on c most a now x

-- the same as one claim
pub record Tells (was : Loads) (on : List Bool) (c most : ℕ) (a : Gives) (now : Loads) (r : Result (List ℕ) Refusal) : Type 0 where
  pub told : ToldAs was on c most a now r

-- the record that an entry of the record c leads to, or why there is none
abbrev pub ParentAs : ℕ → Entry → Result ℕ Refusal → Type 0
ParentAs c e (Ok v) = e ≡ Leads v
ParentAs c e (Err r) = (one : ℕ → Store → Gives) (s : Store) → parent one c (entry_of e) s ≡ refusal r

-- the walk over the entries of the record c, under the chain
abbrev pub walks : List Parsed → List Bool → ℕ → List Entry → Merged → Store → Gives
walks rs on c es x s = walk (load (seen rs) (on_of on)) c (reverse (entries_of es)) x s

-- what the load of the record c asks
pub record LoadPre (l : Loads) (on : List Bool) (c : ℕ) : Type 0 where
  pub table : Table (records_of l) l.table
  pub inside : c < length l.checked.now.book.paths.rows.now
  pub fresh : held l.table c ≡ None
  pub few : reach on l ≤ 65536

-- what the walk over entries of the record c asks
pub record WalkPre (l : Loads) (on : List Bool) (c : ℕ) (es : List Entry) (x : List ℕ) : Type 0 where
  pub table : Table (records_of l) l.table
  pub entries : All (Inside (length l.checked.now.book.paths.rows.now)) es
  pub row : Row (records_of l) x
  pub own : number_of x ≡ c
  pub few : length es + reach on l ≤ 65536

-- what bringing the record v asks
pub record BringPre (l : Loads) (on : List Bool) (v : ℕ) : Type 0 where
  pub table : Table (records_of l) l.table
  pub inside : v < length l.checked.now.book.paths.rows.now
  pub few : reach on l ≤ 65536
