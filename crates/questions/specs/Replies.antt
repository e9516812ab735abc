-- What the entries answer, in the words of the definitions.
use Rattle.std.specs.Prelude.{◌≡◌, List, Bool, ◌&&◌, cond, ℕ}
use Rattle.std.specs.Prelude.{Option, Some, None, Result, Ok, Err}
use Rattle.text.specs.Bytes.{Text}
use Rattle.path_rules.specs.Paths.{asked_path}
use Rattle.strings.specs.Strings.{string_rule}
use Rattle.book.specs.declared.Refusal.{Refusal}
use Rattle.book.specs.Refusals.{refusal}
use Rattle.book.specs.Answer.{Answer, refused, given}
use Rattle.rows.specs.Checked.{records_in}
use Rattle.rows.specs.declared.CheckedBook.{CheckedBook}
use Rattle.rows.specs.Rows.{Row, site_of}
use Rattle.tsconfig.specs.Parsed.{Parsed}
use Rattle.tsconfig.specs.Claims.{Site}
use Rattle.tsconfig_resolver.specs.Project.{Project, load_path}
use Rattle.replies.specs.Replies.{Outcome}
use Rattle.references.specs.declared.Project.{Project as Loaded}
use Rattle.questions.specs.Questions.{book, tsconfig_candidates, tsconfig_tries}

-- what is told of a book by its check: the refusal, or its records
abbrev pub Checks : Text → Text → Result CheckedBook Refusal → Type 0
Checks commands text (Err r) = book commands text ≡ refusal r
Checks commands text (Ok b) = book commands text ≡ given (records_in b.book)

-- whether paths may be asked for; a directory is given for tries alone
abbrev pub asked_for : Text → Option Text → Text → Bool
asked_for path None specifier = asked_path path && string_rule specifier
asked_for path (Some directory) specifier = asked_path path && (asked_path directory && string_rule specifier)

-- the questions C and T as one
abbrev pub tsconfig_paths : Text → Text → Text → Option Text → Text → ℕ → Outcome
tsconfig_paths commands text path None specifier room = tsconfig_candidates commands text path specifier room
tsconfig_paths commands text path (Some directory) specifier room = tsconfig_tries commands text path directory specifier room

-- the load that is asked for, where it may be asked for
abbrev pub asked_load : Bool → List Parsed → Text → Answer Project
asked_load ok rs path = cond ok (load_path rs path) (refused 7 0)

-- a config that is loaded, by its row and the merges made
pub record Ready (rs : List Parsed) (a : Answer Project) (l : Loaded) : Type 0 where
  pub references : List Site
  pub answer : a ≡ given (record { site = site_of rs l.row; references = references; merges = l.merges })
  pub sound : Row rs l.row

-- what is told of a load
abbrev pub LoadsAs : List Parsed → Answer Project → Result Loaded Refusal → Type 0
LoadsAs rs a (Err r) = a ≡ refusal r
LoadsAs rs a (Ok l) = Ready rs a l
