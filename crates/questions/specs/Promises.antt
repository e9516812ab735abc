-- What is inherited, over what the entries promise: from the numbers that a C function returns, or those that a question gives, and the output that it leaves to
-- the line rule, for every book and every question that is not refused. In quotation marks stands the requirement that a record renders.
use Rattle.std.specs.Prelude.{◌≡◌, List, ◌++◌, true, false, ℕ, ◌+◌, ◌<◌, length, take, drop}
use Rattle.std.specs.Prelude.{Some}
use Rattle.text.specs.Bytes.{Text}
use Rattle.names.specs.Names.{tsconfig_json}
use Rattle.join.specs.Join.{push_of}
use Rattle.book.specs.Answer.{given}
use Rattle.book.specs.Find.{find, locate}
use Rattle.tsconfig.specs.Claims.{claims_ownership, solution}
use Rattle.tsconfig.specs.Listing.{listing}
use Rattle.tsconfig.specs.Build.{Settings}
use Rattle.tsconfig.specs.Mapping.{candidates, tries, after_candidates}
use Rattle.tsconfig.specs.Parsed.{Parsed}
use Rattle.tsconfig_resolver.specs.Line.{line, entries_of}
use Rattle.tsconfig_resolver.specs.Find.{record_at, paths_of, seen}
use Rattle.tsconfig_resolver.specs.Project.{Project, load_record}
use Rattle.tsconfig.specs.Laid.{laid}
use Rattle.questions.specs.Demand3.{flat_site, Inherits}
use Rattle.replies.specs.declared.Given.{Given}
use Rattle.replies.specs.declared.Numbers.{Numbers}

-- what a question gives, as C is handed it
abbrev pub c_numbers : Given → Numbers
c_numbers g = record { number = 0; place = 0; first = g.first; second = g.second; bytes = g.bytes }

module _ (rs : List Parsed) where
  -- the record c loads without refusal, and what it gives is the flat config's
  pub record Loads (c : ℕ) : Type 1 where
    pub project : Project
    pub loaded : load_record rs c ≡ given project
    pub inherits : Inherits rs c project

  -- a build's whole output for the flat config of a record's line
  abbrev pub flat_listing : ℕ → Text
  flat_listing c = listing (record_at rs c).references (flat_site rs c).config

  -- what the tries have after the candidates, by the flat config
  abbrev pub flat_after : ℕ → Text → List Text
  flat_after c s = after_candidates (flat_site rs c).config s

  -- "the flat config yields .. the build's whole output", and the merges counted
  pub record BuildInherits (path : Text) (r : Numbers) (old new : Text) : Type 1 where
    pub means : locate (paths_of rs) path ≡ Some r.first
    pub loads : Loads r.first
    pub merges : r.second ≡ entries_of (seen rs) (line (seen rs) r.first)
    pub written : r.bytes ≡ length (flat_listing r.first)
    pub output : new ≡ flat_listing r.first ++ drop r.bytes old

  -- the paths that are written are those that the flat config gives
  pub record PathsInherit (path : Text) (paths : Settings → List Text) (r : Numbers) (old new : Text) : Type 1 where
    pub config : ℕ
    pub means : locate (paths_of rs) path ≡ Some config
    pub loads : Loads config
    pub count : r.first ≡ length (paths (flat_site rs config).config)
    pub written : r.bytes ≡ length (laid (paths (flat_site rs config).config))
    pub output : new ≡ laid (paths (flat_site rs config).config) ++ drop r.bytes old

  -- "whatever specifier is asked, the candidates are the flat one's, in order"
  abbrev pub CandidatesInherit : Text → Text → Numbers → Text → Text → Type 1
  CandidatesInherit path s r old new = PathsInherit path (λ c. candidates c s) r old new

  -- and so are the tries
  abbrev pub TriesInherit : Text → Text → Text → Numbers → Text → Text → Type 1
  TriesInherit path directory s r old new = PathsInherit path (λ c. tries c directory s) r old new

  -- Candidates gave the numbers r and left `new` in its output, tries gave q and left `tried` where `old` was: the tries begin with the candidates, and
  -- what follows is the baseUrl path or nothing.
  pub record OneStory (path s : Text) (r : Numbers) (new : Text) (q : Numbers) (old tried : Text) : Type 1 where
    pub config : ℕ
    pub means : locate (paths_of rs) path ≡ Some config
    pub count : q.first ≡ r.first + length (flat_after config s)
    pub output : tried ≡ take r.bytes new ++ (laid (flat_after config s) ++ drop q.bytes old)

  -- "whatever path is asked, the loaded config claims it exactly when the flat one does": the config found does, by itself or by its references
  pub record OwnerInherits (path : Text) (found solved : ℕ) : Type 1 where
    pub inside : found < length rs
    pub loads : Loads found
    pub claims : claims_ownership path (flat_site rs found) loads.project.references ≡ true
    pub solution_is : solved ≡ solution path (flat_site rs found) loads.project.references

  -- the config of a folder, if it has one, loads and does not claim the path
  pub record Passed (path d : Text) : Type 0 where
    pub passes : (c : ℕ) → find (push_of d tsconfig_json) (paths_of rs) ≡ Some c →
        (p : Project) × (load_record rs c ≡ given p) × (claims_ownership path (flat_site rs c) p.references ≡ false)
