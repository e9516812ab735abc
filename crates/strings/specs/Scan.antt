-- What the loops over a text test at each place: a verdict as a byte; and the rule of a tame text.
use Rattle.std.specs.Prelude.{ℕ, List, Bool, true, false, not, ◌&&◌, leb}
use Rattle.text.specs.Bytes.{Text}
use Rattle.text.specs.Text.{each_of}

-- a verdict as a byte
abbrev pub flag : Bool → ℕ
flag true = 1
flag false = 0

-- from one byte to another
abbrev pub within : ℕ → ℕ → ℕ → Bool
within low high x = leb low x && leb x high

-- A byte that a string may have and that is none of `{ } [ ] !`. Three ranges say it in few tests: they leave out the space and `|` too.
abbrev pub tame_byte : ℕ → Bool
tame_byte x = within 0x22 0x7E x && (not (within 0x5B 0x5D x) && not (within 0x7B 0x7D x))

-- each byte of s is tame
unfoldable pub tame_text : Text → Bool
tame_text s = each_of tame_byte s

-- What the scan keeps of some bytes is that of tame ones. To each byte 0x81 is added: the least is then 0xA3 or more where each was 0x22 to 0x7E. With
-- the bit 0x20 set, 0xFC to 0xFE are the brackets and braces, and what lies between: the distance from 0xFC, that of a byte below taken round, is 3 or more.
unfoldable pub seen_tame : List ℕ → List ℕ → Bool
seen_tame least above = each_of (leb 0xA3) least && each_of (leb 3) above
