-- The four questions: what comes of each, from the lent bytes on.
use Rattle.std.specs.Prelude.{List, [], map, Bool, ◌&&◌, cond, ℕ}
use Rattle.std.specs.Prelude.{Option, Some, None}
use Rattle.text.specs.Bytes.{Text}
use Rattle.book.specs.Answer.{Answer, refused, given, ◌>>=◌}
use Rattle.path_rules.specs.Paths.{asked_path}
use Rattle.strings.specs.Strings.{string_rule}
use Rattle.book.specs.Book.{verdict}
use Rattle.tsconfig.specs.Parsed.{Parsed, parsed}
use Rattle.tsconfig.specs.Listing.{listing}
use Rattle.tsconfig.specs.Mapping.{candidates, tries}
use Rattle.tsconfig_resolver.specs.Find.{record_at}
use Rattle.tsconfig_resolver.specs.Project.{Owner, load_path, owner_of}
use Rattle.replies.specs.Replies.{Outcome, reply, fit, listed}

-- the question's own check, before anything is loaded
unfoldable pub asked : Bool → Outcome → Outcome
asked ok o = cond ok o (refused 7 0)

-- `built`: "record, merges", and "the build's whole output"
unfoldable pub build : List Parsed → ℕ → Text → Outcome
build rs room path = asked (asked_path path) (do
  p ← load_path rs path
  fit room (record { first = p.site.number; second = p.merges; bytes = listing (record_at rs p.site.number).references p.site.config }))

-- `candidates`: the count and the paths
unfoldable pub candidates_of : List Parsed → ℕ → Text → Text → Outcome
candidates_of rs room path s = asked (asked_path path && string_rule s) (do
  p ← load_path rs path
  listed room (candidates p.site.config s))

-- `tries`: "the count and the paths"; the directory is an asked path too
unfoldable pub tries_of : List Parsed → ℕ → Text → Text → Text → Outcome
tries_of rs room path dir s = asked (asked_path path && (asked_path dir && string_rule s)) (do
  p ← load_path rs path
  listed room (tries p.site.config dir s))

-- "answers 65,535 twice for none"
unfoldable pub owner_reply : Option Owner → Outcome
owner_reply None = reply 65535 65535 []
owner_reply (Some o) = reply o.found o.solved []

-- `owner`: "found, solution"
unfoldable pub owner : List Parsed → Text → Outcome
owner rs path = asked (asked_path path) (do
  o ← owner_of rs path
  owner_reply o)

-- From the lent bytes on: "Each question checks the book first."

-- the records of a book
unfoldable pub book : Text → Text → Answer (List Parsed)
book commands text = do
  rs ← verdict commands text
  given (map (parsed text) rs)

-- the question B: commands, text, the asked path, the room of the lent output
unfoldable pub tsconfig_build : Text → Text → Text → ℕ → Outcome
tsconfig_build commands text path room = do
  rs ← book commands text
  build rs room path

-- the question O
unfoldable pub tsconfig_owner : Text → Text → Text → Outcome
tsconfig_owner commands text path = do
  rs ← book commands text
  owner rs path

-- the question C, with its specifier
unfoldable pub tsconfig_candidates : Text → Text → Text → Text → ℕ → Outcome
tsconfig_candidates commands text path specifier room = do
  rs ← book commands text
  candidates_of rs room path specifier

-- the question T, with its directory and specifier
unfoldable pub tsconfig_tries : Text → Text → Text → Text → Text → ℕ → Outcome
tsconfig_tries commands text path directory specifier room = do
  rs ← book commands text
  tries_of rs room path directory specifier
