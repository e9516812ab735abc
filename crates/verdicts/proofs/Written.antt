-- A book written down command by command, and its two slices: for worked examples, here and in the crates above.
use Prim.Native.Nat.{ℕ, zero, suc, ◌+◌, ◌/◌, ◌%◌}
use Prim.Native.String.{String}
use mathlib.Core.List.{List, [], ◌∷◌, ◌++◌}
use lib.ListN.{length}
use Rattle.text.specs.Bytes.{Text, bytes}
use Rattle.book.specs.Command as command

infix 80 ◌says◌
-- A command with its operands.
pub data Line : Type 0 where
  -- the command alone
  alone : ℕ → Line
  -- the command, and its string
  ◌says◌ : ℕ → String → Line
  -- a flag: id, value
  turns : ℕ → ℕ → Line
  -- a text option: id, and its string
  option : ℕ → String → Line
  -- bytes as they are
  raw : List ℕ → Line

-- "2 bytes each, low byte first"
abbrev pub low_first : ℕ → Text
low_first n = (n % 256) ∷ (n / 256) ∷ []

abbrev pub said_by : Line → Text
said_by (alone op) = []
said_by (op says s) = bytes s
said_by (turns id value) = []
said_by (option id s) = bytes s
said_by (raw bs) = []

-- the bytes of a command whose string stands at n in the text
abbrev pub put_down : ℕ → Line → Text
put_down n (alone op) = op ∷ []
put_down n (op says s) = op ∷ (low_first n ++ low_first (length (bytes s)))
put_down n (turns id value) = command.flag ∷ id ∷ value ∷ []
put_down n (option id s) = command.text_option ∷ id ∷ (low_first n ++ low_first (length (bytes s)))
put_down n (raw bs) = bs

abbrev pub commands_from : ℕ → List Line → Text
commands_from n [] = []
commands_from n (l ∷ ls) = put_down n l ++ commands_from (n + length (said_by l)) ls

-- the slice of commands
abbrev pub commands_of : List Line → Text
commands_of ls = commands_from 0 ls

-- the slice of text: the strings one after the other
abbrev pub text_of_lem : List Line → Text
text_of_lem [] = []
text_of_lem (l ∷ ls) = said_by l ++ text_of_lem ls

-- the same a number of times
abbrev pub times : {A : Type 0} → ℕ → List A → List A
times zero xs = []
times (suc n) xs = xs ++ times n xs

-- Records in words

-- a record with commands
abbrev pub at : String → List Line → List Line
at p ls = command.begin says p ∷ (ls ++ (alone command.end ∷ []))

-- one command for each string
abbrev pub each : ℕ → List String → List Line
each op [] = []
each op (s ∷ ss) = op says s ∷ each op ss

abbrev pub extends : List String → List Line
extends ss = each command.extends ss

abbrev pub references : List String → List Line
references ss = each command.reference ss

abbrev pub files : List String → List Line
files ss = alone command.files ∷ each command.file ss

abbrev pub include : List String → List Line
include ss = alone command.include ∷ each command.include_item ss

abbrev pub exclude : List String → List Line
exclude ss = alone command.exclude ∷ each command.exclude_item ss

abbrev pub root_dirs : List String → List Line
root_dirs ss = alone command.root_dirs ∷ each command.root_dir ss

abbrev pub base_url : String → List Line
base_url s = command.base_url says s ∷ []

-- keys, each with its targets
abbrev pub paths : List Line → List Line
paths ks = alone command.paths ∷ ks

abbrev pub key : String → List String → List Line
key k ts = command.key says k ∷ each command.target ts
