-- What the code answers of an owner, in the words of the definition.
use Rattle.std.specs.Prelude.{ℕ, ◌≡◌, List, [], ◌∷◌, cond}
use Rattle.std.specs.Prelude.{Option, Some, None, Result, Ok, Err}
use Rattle.text.specs.Bytes.{Text}
use Rattle.book.specs.Answer.{Answer, given}
use Rattle.book.specs.Refusals.{refusal}
use Rattle.book.specs.declared.Refusal.{Refusal}
use Rattle.tsconfig.specs.Parsed.{Parsed}
use Rattle.tsconfig.specs.Claims.{Site, claims}
use Rattle.tsconfig_resolver.specs.Project as project
use Rattle.tsconfig_resolver.specs.Project.{owned, owner_at}
use Rattle.owner.specs.declared.Owner.{Owner}

-- the number of the first of the sites that claims the path
unfoldable pub claimer : Text → List Site → Option ℕ
claimer path [] = None
claimer path (s ∷ ss) = cond (claims path s) (Some s.number) (claimer path ss)

-- a refusal, what is found above where a folder has no owner, or the owner
abbrev pub answered : Result (Option Owner) Refusal → Answer (Option project.Owner) → Answer (Option project.Owner)
answered (Err r) above = refusal r
answered (Ok None) above = above
answered (Ok (Some o)) above = given (Some (record { found = o.found; solved = o.solution }))

-- r is what comes of a loaded config on the walk, however many merges it took
pub record OwnedAs (path : Text) (s : Site) (refs : List Site) (r : Option Owner) : Type 0 where
  pub answer : (m : ℕ) (above : Answer (Option project.Owner)) → owned path (record { site = s; references = refs; merges = m }) above ≡ answered (Ok r) above

-- r is what comes of a config, if there is one, on the walk
pub record FolderAs (rs : List Parsed) (path : Text) (o : Option ℕ) (r : Result (Option Owner) Refusal) : Type 0 where
  pub answer : (above : Answer (Option project.Owner)) → owner_at rs path o above ≡ answered r above
