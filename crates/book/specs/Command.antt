-- From bytes to commands.
use Rattle.std.specs.Prelude.{ℕ, zero, suc, ◌+◌, ◌*◌, List, [], ◌∷◌, cond, length, get_or, ltb, leb, eqb}
use Rattle.text.specs.Bytes.{Text}
use Rattle.book.specs.declared.Cmd.{Cmd}

-- The commands, by their byte: "In hexadecimal: 01 BEGIN S (path); 02 FILES, 03 item S; .."

abbrev pub begin : ℕ
begin = 0x01

abbrev pub files : ℕ
files = 0x02

abbrev pub file : ℕ
file = 0x03

abbrev pub include : ℕ
include = 0x04

abbrev pub include_item : ℕ
include_item = 0x05

abbrev pub exclude : ℕ
exclude = 0x06

abbrev pub exclude_item : ℕ
exclude_item = 0x07

abbrev pub extends : ℕ
extends = 0x08

abbrev pub base_url : ℕ
base_url = 0x09

abbrev pub paths : ℕ
paths = 0x0A

abbrev pub key : ℕ
key = 0x0B

abbrev pub target : ℕ
target = 0x0C

abbrev pub reference : ℕ
reference = 0x0D

abbrev pub root_dirs : ℕ
root_dirs = 0x0E

abbrev pub root_dir : ℕ
root_dir = 0x0F

abbrev pub out_dir : ℕ
out_dir = 0x10

abbrev pub declaration_dir : ℕ
declaration_dir = 0x11

abbrev pub flag : ℕ
flag = 0x12

abbrev pub text_option : ℕ
text_option = 0x13

abbrev pub end : ℕ
end = 0x14

-- stands for a width where there is no such command
abbrev pub no_command : ℕ
no_command = 9

-- "operands have fixed widths": the operand bytes of the commands 00 to 14
abbrev pub widths : List ℕ
widths = no_command ∷ 4 ∷ 0 ∷ 4 ∷ 0 ∷ 4 ∷ 0 ∷ 4 ∷ 4 ∷ 4 ∷ 0 ∷ 4 ∷ 4 ∷ 4 ∷ 0 ∷ 4 ∷ 4 ∷ 4 ∷ 2 ∷ 5 ∷ 0 ∷ []

-- the operand bytes of a command
unfoldable pub width_of : ℕ → ℕ
width_of op = cond (ltb op 0x15) (get_or widths op 0) no_command

-- "2 bytes each, low byte first"
abbrev pub word : Text → ℕ → ℕ
word s i = get_or s i 0 + get_or s (i + 1) 0 * 256

-- "A string S is start and length"; "12 flag: id, value"; "13 text option: id, S". The bytes from the command's own on.
unfoldable pub operands : ℕ → Text → Cmd
operands w s =
    cond (eqb w 4) (record { op = get_or s 0 0; id = 0; value = 0; start = word s 1; len = word s 3 })
    (cond (eqb w 5) (record { op = get_or s 0 0; id = get_or s 1 0; value = 0; start = word s 2; len = word s 4 })
    (cond (eqb w 2) (record { op = get_or s 0 0; id = get_or s 1 0; value = get_or s 2 0; start = 0; len = 0 })
    (record { op = get_or s 0 0; id = 0; value = 0; start = 0; len = 0 })))

-- The commands, each with its offset, up to the end or to one that is broken.
pub data Decoded : Type 0 where
  ended broken : ℕ → Decoded
  command : ℕ → Cmd → Decoded → Decoded

-- "unknown byte, operands cut short": the command byte at the head of s, with `rest` after its operands
unfoldable pub decode_at : ℕ → ℕ → Text → (ℕ → Decoded) → Decoded
decode_at at w s rest =
    cond (eqb w no_command) (broken at) (cond (leb (length s) w) (broken at) (command at (operands w s) (rest w)))

-- "A command is one byte; operands have fixed widths": the first k bytes belong to the command before
unfoldable pub decode : ℕ → ℕ → Text → Decoded
decode k at [] = ended at
decode zero at (x ∷ s) = decode_at at (width_of x) (x ∷ s) (λ w. decode w (suc at) s)
decode (suc k) at (x ∷ s) = decode k (suc at) s
