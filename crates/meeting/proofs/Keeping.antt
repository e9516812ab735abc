-- What is kept of the paths before, and what it tells of one more. Assumes nothing.
use mathlib.Core.Path.{◌≡◌, refl, sym, ap, ◌∙◌}
use mathlib.Core.List.{List}
use mathlib.Core.Bool.{Bool, true, false, true≢false}
use Prim.Native.Nat.{ℕ}
use lib.ListN.{get_or}
use borrow.Author.Tests.{ne_eqb}
use Rattle.text.specs.Bytes.{Text}
use Rattle.text.specs.Text.{some_of}
use Rattle.compare.specs.Compare.{digest_of}
use Rattle.book.specs.declared.Seen.{Seen}
use Rattle.book.specs.State.{string_at, texts, meets}
use Rattle.meeting.specs.Admitted.{FilesWith, Keeps}
use Rattle.meeting.proofs.Rows.{rows_same, none_rows}
use Rattle.meeting.proofs.Marks.{other}
use Rattle.meeting.proofs.Files.{files_meet}

-- among the paths of files, one that meets another is the same
pub files_same : (text : Text) (rows : List Seen) (s : Text) → FilesWith text rows s → some_of (meets false s) (texts text rows) ≡ some_of (meets true s) (texts text rows)
files_same text rows s f =
    sym (rows_same text (meets false s) (λ r. meets false s (string_at text r)) rows (λ i d h. refl))
    ∙ rows_same text (meets true s) (λ r. meets false s (string_at text r)) rows (λ i d h. files_meet s (string_at text (get_or rows i d)) f.1 (f.0 i d h))

-- one whose digest is not noted is none of them
pub unnoted :
    {text : Text} {rows : List Seen} {noted : List Bool} {are_files : Bool} → Keeps text rows noted are_files → (s : Text) (mark : ℕ) → mark ≡ digest_of s → get_or noted mark false ≡ false →
    some_of (meets false s) (texts text rows) ≡ false
unnoted {text} {rows} {noted} k s mark m e =
    none_rows text (meets false s) rows
    (λ i d h. other s text mark m (get_or rows i d) (k.seen i d h) (ne_eqb mark (get_or rows i d).mark (λ q. true≢false (sym (k.marks i d h) ∙ ap (λ (j : ℕ). get_or noted j false) (sym q) ∙ e))))
