-- A question line, as the programs read it.
use Rattle.std.specs.Prelude.{ℕ, Bool, ◌&&◌, cond, length, get_or, eqb, leb, Option, Some, None, is_some}
use Rattle.text.specs.Bytes.{Text}
use Rattle.text.specs.Text.{find, after_byte}
use Rattle.asked.specs.declared.Kind.{Kind}
use Rattle.asked.specs.declared.Kind.TheVariants.{Build, Owner, Candidates, Tries}

-- the byte between the fields
abbrev pub tab : ℕ
tab = 0x09

-- another field follows
unfoldable pub has_tab : Text → Bool
has_tab s = is_some (find tab s)

-- "`B /t/st/tsconfig.json`, `O /t/st/src/a.ts`, `C /t/st/tsconfig.json`, tab, `@f/band`"; "Tries are asked by `T`, the config, tab, directory, tab, specifier"
unfoldable pub by_letter : ℕ → Text → Option Kind
by_letter x line =
    cond (eqb x 0x42) (Some Build)
    (cond (eqb x 0x4F) (Some Owner)
    (cond (eqb x 0x43) (cond (has_tab line) (Some Candidates) None)
    (cond (eqb x 0x54) (cond (has_tab (after_byte tab line)) (Some Tries) None) None)))

-- a letter, a blank, and the letter's fields; of another line, nothing
unfoldable pub kind_of : Text → Option Kind
kind_of line = cond (leb 2 (length line) && eqb (get_or line 1 0) 0x20) (by_letter (get_or line 0 0) line) None

-- the byte that an output is filled with before a question
abbrev pub pattern : ℕ
pattern = 0xA5
