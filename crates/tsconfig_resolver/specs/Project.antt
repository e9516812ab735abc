-- A config loaded with its references, and the owner of a file.
use Rattle.std.specs.Prelude.{List, [], ◌∷◌, cond, ℕ, zero, suc, ◌-◌, length}
use Rattle.std.specs.Prelude.{Option, Some, None}
use Rattle.book.specs.Find.{find, locate}
use Rattle.book.specs.Answer.{Answer, refused, given, ◌>>=◌}
use Rattle.tsconfig.specs.Config.{Config}
use Rattle.tsconfig_resolver.specs.Load.{State, load_asked}
use Rattle.tsconfig_resolver.specs.References.{refer}
use Rattle.text.specs.Bytes.{Text}
use Rattle.names.specs.Names.{tsconfig_json}
use Rattle.ends.specs.Ends.{parent_of}
use Rattle.join.specs.Join.{push_of}
use Rattle.components.specs.Components.{components, inside_node_modules}
use Rattle.tsconfig.specs.Config.{mapped}
use Rattle.tsconfig.specs.Parsed.{Parsed}
use Rattle.tsconfig.specs.Build.{Settings, built}
use Rattle.tsconfig.specs.Claims.{Site, claims_ownership, solution}
use Rattle.tsconfig_resolver.specs.Find.{Supplied, SuppliedValue, record_at, path_at, paths_of, meant, seen}

-- a config as the load merges it
abbrev pub Merged : Type 0
Merged = Config SuppliedValue (Supplied Text)

-- a loaded config with its suppliers left out
abbrev pub settings : Merged → Settings
settings c = mapped (λ f v. v.value) (λ b. b.value) c

-- what a load of a config with its references gives
pub record Project : Type 0 where
  pub site : Site
  pub references : List Site
  pub merges : ℕ

-- a merged config built at the path of its record
abbrev pub site_at : List Parsed → ℕ → Merged → Site
site_at rs c x = record { number = c; path = path_at rs c; config = built (path_at rs c) (settings x) }

-- the tables and the count of merges
abbrev pub Store : Type 0
Store = State SuppliedValue (Supplied Text)

-- a reference loaded, and the tables after it
pub record Referred : Type 0 where
  pub site : Site
  pub state : Store

-- "self test, then the reference's own extends, its chain starting empty with each parent"
unfoldable pub refer_to : List Parsed → ℕ → Option ℕ → Store → Answer Referred
refer_to rs c None s = refused 8 c
refer_to rs c (Some r) s = do
  x ← refer (seen rs) c r s
  given (record { site = site_at rs r x.config; state = x.state })

-- "Then references, in order"; "References of references are not loaded."
unfoldable pub references_of : List Parsed → ℕ → List Text → Store → Answer (List Site)
references_of rs c [] s = given []
references_of rs c (t ∷ ts) s = do
  x ← refer_to rs c (meant rs c t) s
  more ← references_of rs c ts x.state
  given (x.site ∷ more)

-- the record c as the asked config: its extends, then its references; "Merges counted .. are those of the asked config, references apart"
unfoldable pub load_record : List Parsed → ℕ → Answer Project
load_record rs c = do
  x ← load_asked (seen rs) c
  refs ← references_of rs c (record_at rs c).references x.state
  given (record { site = site_at rs c x.config; references = refs; merges = x.state.merges })

-- "for 8 the record naming the missing config, 65,535 for the asked path"
unfoldable pub load_found : List Parsed → Option ℕ → Answer Project
load_found rs None = refused 8 65535
load_found rs (Some c) = load_record rs c

-- the config that an asked path means
unfoldable pub load_path : List Parsed → Text → Answer Project
load_path rs p = load_found rs (locate (paths_of rs) p)

-- The owner (01's term) of a file: the config found on the walk, and its solution.
pub record Owner : Type 0 where
  pub found : ℕ
  pub solved : ℕ

-- the asked path as a folder, and k folders above it: `/a/b` has three components and two folders above it
unfoldable pub folders : ℕ → Text → List Text
folders zero d = d ∷ []
folders (suc k) d = d ∷ folders k (parent_of d)

-- the config, if it claims the path, else what is found above
unfoldable pub owned : Text → Project → Answer (Option Owner) → Answer (Option Owner)
owned path p above =
    cond (claims_ownership path p.site p.references)
    (given (Some (record { found = p.site.number; solved = solution path p.site p.references }))) above

-- the config of a folder, if it has one
unfoldable pub owner_at : List Parsed → Text → Option ℕ → Answer (Option Owner) → Answer (Option Owner)
owner_at rs path None above = above
owner_at rs path (Some c) above = do
  p ← load_record rs c
  owned path p above

-- find_tsconfig_auto: "with a fresh resolver per asked config and per config on the finder's walk"
unfoldable pub owner_from : List Parsed → Text → List Text → Answer (Option Owner)
owner_from rs path [] = given None
owner_from rs path (d ∷ ds) = owner_at rs path (find (push_of d tsconfig_json) (paths_of rs)) (owner_from rs path ds)

-- "If the `path` is inside `node_modules`, this function always returns `None`."
unfoldable pub owner_of : List Parsed → Text → Answer (Option Owner)
owner_of rs path = cond (inside_node_modules path) (given None) (owner_from rs path (folders (length (components path) - 1) path))
