-- The load: tables that live for one call, the chain, refusals, and the merges counted as they are made.
use Rattle.std.specs.Prelude.{List, [], ◌∷◌, reverse, Bool, false, cond, not, ◌||◌, ℕ, zero, suc, eqb}
use Rattle.std.specs.Prelude.{Option, Some, None}
use Rattle.book.specs.Answer.{Answer, refused, given, ◌>>=◌, unless}
use Rattle.tsconfig.specs.Config.{Field, Config, merge}
use Rattle.tsconfig_resolver.specs.Line.{Configs, Entry, empty, bare, missing, leads, tally}

-- the configs loaded so far, by record number, and the merges made
pub record State (Val : Field → Type 0) (B : Type 0) : Type 0 where
  pub table : ℕ → Option (Config Val B)
  pub merges : ℕ

-- what a load gives
pub record Loaded (Val : Field → Type 0) (B : Type 0) : Type 0 where
  pub config : Config Val B
  pub state : State Val B

-- one more on the chain: the chain is the test whether a record is on it
abbrev pub add : ℕ → (ℕ → Bool) → ℕ → Bool
add c chain i = eqb i c || chain i

-- the refusal of the first entry that is refused as it is read
abbrev pub unread : List Entry → Option ℕ
unread [] = None
unread (empty ∷ es) = Some 11
unread (bare ∷ es) = Some 12
unread (missing ∷ es) = unread es
unread (leads p ∷ es) = unread es

module _ {Val : Field → Type 0} {B : Type 0} where
  -- the load gives the config and the state
  abbrev pub done : Config Val B → State Val B → Answer (Loaded Val B)
  done x s = given (record { config = x; state = s })

  -- what the table has, else what comes next
  abbrev pub recall : Option (Config Val B) → (State Val B → Answer (Loaded Val B)) → State Val B → Answer (Loaded Val B)
  recall (Some x) k s = done x s
  recall None k s = k s

  -- the config in the table, under its record's number
  abbrev pub put : ℕ → Config Val B → State Val B → State Val B
  put c x s = record { table = λ i. cond (eqb i c) (Some x) (s.table i); merges = s.merges }

  -- one merge more
  abbrev pub counted : State Val B → State Val B
  counted s = record { table = s.table; merges = suc s.merges }

  -- "tables .. living for one call": empty at its start
  abbrev pub start : State Val B
  start = record { table = λ i. None; merges = 0 }

  -- one parent of the record c: from the table, or loaded by `one`
  abbrev pub parent : (ℕ → State Val B → Answer (Loaded Val B)) → ℕ → Entry → State Val B → Answer (Loaded Val B)
  parent one c empty s = refused 11 c
  parent one c bare s = refused 12 c
  parent one c missing s = refused 8 c
  parent one c (leads p) s = recall (s.table p) (one p) s

  -- the parents of c in turn, each merged into what c has come to
  abbrev pub walk : (ℕ → State Val B → Answer (Loaded Val B)) → ℕ → List Entry → Config Val B → State Val B → Answer (Loaded Val B)
  walk one c [] x s = done x s
  walk one c (e ∷ es) x s = do
    r ← parent one c e s
    walk one c es (merge x r.config) (counted r.state)

module _ {Val : Field → Type 0} {B : Type 0} (b : Configs Val B) where
  -- what refuses the record c before its parents are loaded: the chain, then its entries in order
  abbrev pub refusal : (ℕ → Bool) → ℕ → Option ℕ
  refusal chain c = cond (chain c) (Some 9) (unread (b.entries c))

  -- the record c, where `one` loads a parent
  abbrev pub fresh : (ℕ → State Val B → Answer (Loaded Val B)) → ℕ → State Val B → Answer (Loaded Val B)
  fresh one c s = do
    r ← walk one c (reverse (b.entries c)) (b.own c) s
    done r.config (put c r.config r.state)

  -- how many records are not on the chain
  abbrev pub free : (ℕ → Bool) → ℕ
  free chain = tally b.size (λ i. 1) (λ i. not (chain i))

  -- The record c, met under the chain, through k more records: where none is left, all are on the chain, c too.
  unfoldable pub load_by : ℕ → (ℕ → Bool) → ℕ → State Val B → Answer (Loaded Val B)
  load_by zero chain c s = refused 9 c
  load_by (suc k) chain c s = unless (refusal chain c) c (fresh (load_by k (add c chain)) c) s

  -- the record c, met under the chain: as many records are left as are not on it
  unfoldable pub load : (ℕ → Bool) → ℕ → State Val B → Answer (Loaded Val B)
  load chain = load_by (free chain) chain

  -- the asked config
  abbrev pub load_asked : ℕ → Answer (Loaded Val B)
  load_asked c = load (λ i. false) c start
