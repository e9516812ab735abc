-- The parts of a text that are looked at each by itself. This serves the code: what is wrong with a string is said in the book's definitions.
use Rattle.std.specs.Prelude.{ℕ, ◌*◌, take, drop}
use Rattle.text.specs.Bytes.{Text}

-- part i of a text, as long as a string may be
abbrev pub part_of : Text → ℕ → Text
part_of text i = take 512 (drop (512 * i) text)
