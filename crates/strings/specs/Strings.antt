-- The rules of strings by their bytes: what refusal 4 tests in a book, and 7 in a question.
use Rattle.std.specs.Prelude.{ℕ, Bool, not, ◌&&◌, length, eqb, leb}
use Rattle.text.specs.Bytes.{Text}
use Rattle.text.specs.Text.{some_of, each_of}

-- x is none of the bytes
abbrev pub none_of : Text → ℕ → Bool
none_of barred x = not (some_of (eqb x) barred)

-- "each hexadecimal 20 to 7E, no backslash"
abbrev pub plain_byte : ℕ → Bool
plain_byte x = leb 0x20 x && (leb x 0x7E && not (eqb x 0x5C))

-- "Strings, specifiers and asked paths: at most 512 bytes, each hexadecimal 20 to 7E, no backslash."
unfoldable pub string_rule : Text → Bool
string_rule s = leb (length s) 512 && each_of plain_byte s
