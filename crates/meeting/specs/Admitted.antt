-- The paths of the records before, and what is noted of them.
use Rattle.std.specs.Prelude.{◌≡◌, List, Bool, true, false, get_or}
use Rattle.std.specs.List.{All}
use Rattle.text.specs.Bytes.{Text}
use Rattle.book.specs.declared.Seen.{Seen}
use Rattle.book.specs.State.{string_at, AllSeen}
use Rattle.meeting.specs.Files.{file_path}

-- the text that the paths stand in, and the row of each, the first one first
pub record Admitted : Type 0 where
  pub text : Text
  pub rows : List Seen

-- each row's path is that of a file
abbrev pub AllFiles : Text → List Seen → Type 0
AllFiles text rows = All (λ r. file_path (string_at text r) ≡ true) rows

-- each row's path is that of a file, and so is s
abbrev pub FilesWith : Text → List Seen → Text → Type 0
FilesWith text rows s = AllFiles text rows × (file_path s ≡ true)

-- Each row's path lies in the text, and its digest is noted. Where all are known to be the paths of files, they are.
pub record Keeps (text : Text) (rows : List Seen) (noted : List Bool) (are_files : Bool) : Type 0 where
  pub seen : AllSeen text rows
  pub marks : All (λ r. get_or noted r.mark false ≡ true) rows
  pub files : are_files ≡ true → AllFiles text rows
