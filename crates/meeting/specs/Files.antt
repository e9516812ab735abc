-- Which paths are told to be those of files: of these none lies under another. This serves the code alone: what meets is said in the book's definitions.
use Rattle.std.specs.Prelude.{ℕ, ◌+◌, ◌-◌, [], ◌∷◌, Bool, true, not, ◌&&◌, length, get_or, eqb, leb}
use Rattle.text.specs.Bytes.{Text, slash}

-- `son` stands at j
abbrev pub son_at : Text → ℕ → Bool
son_at s j = eqb (get_or s j 0) 0x73 && (eqb (get_or s (j + 1) 0) 0x6F && eqb (get_or s (j + 2) 0) 0x6E)

-- `son/` stands at j: there a directory's name ends as a file's
abbrev pub file_above : Text → ℕ → Bool
file_above s j = son_at s j && eqb (get_or s (j + 3) 0) slash

-- `son/` stands nowhere
unfoldable pub no_file_above : Text → Bool
no_file_above [] = true
no_file_above (x ∷ s) = not (file_above (x ∷ s) 0) && no_file_above s

-- s ends in `son`, as what ends in `.json` does, and no directory of it does
unfoldable pub file_path : Text → Bool
file_path s = leb 3 (length s) && (son_at s (length s - 3) && no_file_above s)
