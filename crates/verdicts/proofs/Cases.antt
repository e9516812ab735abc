-- Worked examples of the book: reading commands, the rules of strings, each refusal 2 to 6 with its place, and what a record says.
use Prim.Native.Nat.{ℕ}
use Prim.Native.String.{String}
use mathlib.Core.List.{List, [], ◌∷◌, ◌++◌, map}
use mathlib.Core.Path.{◌≡◌, refl}
use mathlib.Core.Bool.{Bool, true, false}
use Rattle.std.specs.Prelude.{Option, Some, None}
use lib.ListN.{length}
use Rattle.text.specs.Bytes.{Text, bytes}
use Rattle.book.specs.declared.Cmd.{Cmd}
use Rattle.book.specs.Answer.{Answer, refused, given}
use Rattle.book.specs.Command as command
use Rattle.book.specs.Command.{Decoded, decode}
use Rattle.strings.specs.Strings.{string_rule}
use Rattle.path_rules.specs.Paths.{record_path, lead_rule, asked_path}
use Rattle.patterns.specs.Patterns.{pattern_rule}
use Rattle.book.specs.Record.{Key, strings, single, listed, mapping, option_of, flag_of, record_path_of}
use Rattle.book.specs.Book.{verdict}
use Rattle.verdicts.proofs.Written.{Line, alone, ◌says◌, turns, option, raw, commands_of, text_of_lem, times}
-- what the answers are computed with
use Rattle.book.specs.Book.{next, finish, judge}
use Rattle.book.specs.Command.{width_of, operands, decode_at}
use Rattle.book.specs.Record.{only, first_of, targets_of, keys_of}
use Rattle.book.specs.Rules.{text_of, slot, tally, in_range, opened, fresh, follows, in_order, too_many, own_rule, good_string, path_of, keys_of as keysOf-in-Rules, clash, given_before, fault_of, fault}
use Rattle.components.specs.Components.{on_first, split, piece_of, starts}
use Rattle.path.specs.Path.{normal}
use Rattle.patterns.specs.Patterns.{after_config_dir, two_stars, pattern_text}
use Rattle.compare.specs.Compare.{covers}
use Rattle.text.specs.Text.{prefix_of, same_text, some_of, each_of}

pub data Case : Type 0 where
  -- bytes, read as commands
  read : List ℕ → Case
  -- a string under a rule: of every string, of a record's path, of extends and references, of patterns, of asked paths
  string path lead pattern asked : String → Case
  -- a book
  book : List Line → Case
  -- the record of a book of one record
  record_of : List Line → Case

-- what a record says
pub record Said : Type 0 where
  pub path : Text
  pub files : Option (List Text)
  pub exclude : Option (List Text)
  pub extends : List Text
  pub base_url : Option Text
  pub paths : Option (List Key)
  pub flag_2 : Option Bool
  pub text_6 : Option Text

pub data Told : Type 0 where
  commands : List (List ℕ) → Told
  yes no : Told
  -- "A refusal is its number and a place"
  refuses : ℕ → ℕ → Told
  -- accepted, with so many records
  accepts : ℕ → Told
  record_says : Said → Told

abbrev pub of_bool_lem : Bool → Told
of_bool_lem true = yes
of_bool_lem false = no

-- offset, byte, id, value, start, length of each command; the offset alone where the end or a broken command stands
abbrev pub listing : Decoded → List (List ℕ)
listing (command.ended at) = (at ∷ []) ∷ []
listing (command.broken at) = (at ∷ []) ∷ []
listing (command.command at c rest) = (at ∷ c.op ∷ c.id ∷ c.value ∷ c.start ∷ c.len ∷ []) ∷ listing rest

abbrev pub of_verdict : Answer (List (List Cmd)) → Told
of_verdict (refused n p) = refuses n p
of_verdict (given rs) = accepts (length rs)

abbrev pub said_of : Text → List Cmd → Said
said_of t r =
    record {
      path = record_path_of t r;
      files = listed t command.files command.file r;
      exclude = listed t command.exclude command.exclude_item r;
      extends = strings t command.extends r;
      base_url = single t command.base_url r;
      paths = mapping t r;
      flag_2 = flag_of 2 r;
      text_6 = option_of t 6 r;
    }

abbrev pub of_records : Text → Answer (List (List Cmd)) → Told
of_records t (refused n p) = refuses n p
of_records t (given []) = accepts 0
of_records t (given (r ∷ rs)) = record_says (said_of t r)

abbrev pub answer : Case → Told
answer (read bs) = commands (listing (decode 0 0 bs))
answer (string s) = of_bool_lem (string_rule (bytes s))
answer (path s) = of_bool_lem (record_path (bytes s))
answer (lead s) = of_bool_lem (lead_rule (bytes s))
answer (pattern s) = of_bool_lem (pattern_rule (bytes s))
answer (asked s) = of_bool_lem (asked_path (bytes s))
answer (book ls) = of_verdict (verdict (commands_of ls) (text_of_lem ls))
answer (record_of ls) = of_records (text_of_lem ls) (verdict (commands_of ls) (text_of_lem ls))

-- an open record, and commands in it
abbrev pub in_record : List Line → List Line
in_record ls = (command.begin says "/p/a") ∷ ls

abbrev pub closed : List Line → List Line
closed ls = in_record (ls ++ (alone command.end ∷ []))

abbrev pub one_record : String → List Line
one_record p = (command.begin says p) ∷ alone command.end ∷ []

-- a key with so many targets
abbrev pub mapped_to : ℕ → String → List Line
mapped_to n k = command.key says k ∷ times {A = Line} n (command.target says "t" ∷ [])

pub record Row : Type 0 where
  pub ask : Case
  pub told : Told

infix 5 ◌gets◌
abbrev pub ◌gets◌ : Case → Told → Row
c gets t = record { ask = c; told = t }

abbrev pub table : List Row
table =
    -- reading
    (read (0x01 ∷ 0x05 ∷ 0x00 ∷ 0x02 ∷ 0x01 ∷ 0x02 ∷ 0x12 ∷ 0x08 ∷ 0x01 ∷ 0x13 ∷ 0x06 ∷ 0x01 ∷ 0x02 ∷ 0x03 ∷ 0x00 ∷ 0x14 ∷ [])
    gets commands
    ((0 ∷ 0x01 ∷ 0 ∷ 0 ∷ 5 ∷ 258 ∷ [])
    ∷ (5 ∷ 0x02 ∷ 0 ∷ 0 ∷ 0 ∷ 0 ∷ [])
    ∷ (6 ∷ 0x12 ∷ 8 ∷ 1 ∷ 0 ∷ 0 ∷ [])
    ∷ (9 ∷ 0x13 ∷ 6 ∷ 0 ∷ 513 ∷ 3 ∷ [])
    ∷ (15 ∷ 0x14 ∷ 0 ∷ 0 ∷ 0 ∷ 0 ∷ [])
    ∷ (16 ∷ [])
    ∷ []))
    ∷ (read (0x02 ∷ 0x09 ∷ 0x00 ∷ 0x00 ∷ []) gets commands ((0 ∷ 0x02 ∷ 0 ∷ 0 ∷ 0 ∷ 0 ∷ []) ∷ (1 ∷ []) ∷ []))
    -- rules of strings
    ∷ (string "" gets yes)
    ∷ (string " ~${configDir}" gets yes)
    ∷ (string "a\\b" gets no)
    ∷ (string "a\u{7f}" gets no)
    ∷ (string "a\u{1f}" gets no)
    ∷ (path "/p/a b" gets yes)
    ∷ (path "/" gets no)
    ∷ (path "/p/" gets no)
    ∷ (path "/p/../a" gets no)
    ∷ (path "/p/a#" gets no)
    ∷ (lead "/" gets yes)
    ∷ (lead "/p//a" gets no)
    ∷ (lead "p//../" gets yes)
    ∷ (lead "" gets yes)
    ∷ (pattern "${configDir}**" gets yes)
    ∷ (pattern "a/**/b*?" gets yes)
    ∷ (pattern "a**" gets no)
    ∷ (pattern "***" gets no)
    ∷ (pattern "a/${configDir}" gets no)
    ∷ (asked "/" gets yes)
    ∷ (asked "/p/a*" gets yes)
    ∷ (asked "/p/a?" gets no)
    ∷ (asked "/p/./a" gets no)
    -- the sizes
    ∷ (book [] gets accepts 0)
    ∷ (book (raw (times 32768 (0 ∷ [])) ∷ []) gets refuses 2 0)
    ∷ (book (raw (times 32769 (0 ∷ [])) ∷ []) gets refuses 1 0)
    -- 2
    ∷ (book (in_record (raw (0x15 ∷ []) ∷ [])) gets refuses 2 5)
    ∷ (book (closed (raw (0x00 ∷ []) ∷ [])) gets refuses 2 5)
    ∷ (book (in_record (raw (0x09 ∷ 0 ∷ 0 ∷ 0 ∷ []) ∷ [])) gets refuses 2 5)
    ∷ (book (in_record (alone command.files ∷ [])) gets refuses 2 6)
    -- 3
    ∷ (book (alone command.end ∷ []) gets refuses 3 0)
    ∷ (book (in_record (command.begin says "/q" ∷ [])) gets refuses 3 5)
    ∷ (book (in_record (command.file says "k" ∷ [])) gets refuses 3 5)
    ∷ (book (in_record (alone command.files ∷ alone command.files ∷ [])) gets refuses 3 6)
    ∷ (book (in_record (turns 11 0 ∷ [])) gets refuses 3 5)
    ∷ (book (in_record (turns 10 2 ∷ [])) gets refuses 3 5)
    ∷ (book (in_record (turns 10 1 ∷ turns 9 1 ∷ turns 10 0 ∷ [])) gets refuses 3 11)
    ∷ (book (in_record (option 7 "x" ∷ [])) gets refuses 3 5)
    ∷ (book (in_record (alone command.paths ∷ command.key says "k" ∷ alone command.files ∷ command.target says "t" ∷ [])) gets refuses 3 12)
    ∷ (book (closed (alone command.paths ∷ command.key says "k" ∷ command.target says "t" ∷ command.target says "u" ∷ [])) gets accepts 1)
    -- 4
    ∷ (book (one_record "/p/[a]") gets refuses 4 0)
    ∷ (book (in_record (command.extends says "/q/" ∷ [])) gets refuses 4 5)
    ∷ (book (in_record (alone command.include ∷ command.include_item says "a**" ∷ [])) gets refuses 4 6)
    ∷ (book (closed (alone command.files ∷ command.file says "a**" ∷ [])) gets accepts 1)
    ∷ (book (closed (raw (0x09 ∷ 4 ∷ 0 ∷ 0 ∷ 0 ∷ []) ∷ [])) gets accepts 1)
    ∷ (book (closed (raw (0x09 ∷ 5 ∷ 0 ∷ 0 ∷ 0 ∷ []) ∷ [])) gets refuses 4 5)
    ∷ (book (closed (raw (0x09 ∷ 3 ∷ 0 ∷ 2 ∷ 0 ∷ []) ∷ [])) gets refuses 4 5)
    -- 5
    ∷ (book (closed (times 8 (command.extends says "./x" ∷ []))) gets accepts 1)
    ∷ (book (in_record (times 9 (command.extends says "./x" ∷ []))) gets refuses 5 45)
    ∷ (book (in_record (alone command.paths ∷ (mapped_to 8 "j" ++ mapped_to 9 "k"))) gets refuses 5 96)
    -- 6
    ∷ (book (one_record "/p/a" ++ one_record "/p/a") gets refuses 6 6)
    ∷ (book (one_record "/p/a" ++ one_record "/p/a/b") gets refuses 6 6)
    ∷ (book (one_record "/p/a" ++ one_record "/p") gets refuses 6 6)
    ∷ (book (one_record "/p/a" ++ one_record "/p/ab") gets accepts 2)
    ∷ (book (in_record (alone command.paths ∷ command.key says "k" ∷ command.key says "k" ∷ [])) gets refuses 6 11)
    -- "within a command the lowest number": 3 before 4, 4 before 5, 5 before 6
    ∷ (book (in_record (command.file says "a\\b" ∷ [])) gets refuses 3 5)
    ∷ (book (in_record (times 8 (command.extends says "./x" ∷ []) ++ ((command.extends says "/q/") ∷ []))) gets refuses 4 45)
    -- what a record says
    ∷ (record_of
    (closed
    (alone command.paths
    ∷ alone command.files
    ∷ command.key says "k"
    ∷ command.target says "t"
    ∷ command.target says "u"
    ∷ command.extends says "./x"
    ∷ command.key says "l"
    ∷ command.target says "v"
    ∷ command.file says "f"
    ∷ turns 1 1
    ∷ turns 2 0
    ∷ command.extends says "./y"
    ∷ option 6 "m"
    ∷ command.file says ""
    ∷ []))
    gets record_says
    (record {
      path = bytes "/p/a";
      files = Some (bytes "f" ∷ [] ∷ []);
      exclude = None;
      extends = bytes "./x" ∷ bytes "./y" ∷ [];
      base_url = None;
      paths = Some (record { key = bytes "k"; targets = bytes "t" ∷ bytes "u" ∷ [] } ∷ record { key = bytes "l"; targets = bytes "v" ∷ [] } ∷ []);
      flag_2 = Some false;
      text_6 = Some (bytes "m");
    }))
    ∷ []

pub cases : map (λ r. answer r.ask) table ≡ map (λ r. r.told) table
unfolding verdict decode strings single listed mapping option_of record_path_of flag_of string_rule record_path lead_rule pattern_rule asked_path next finish judge width_of operands decode_at only first_of targets_of keys_of text_of slot tally in_range opened fresh follows in_order too_many own_rule good_string path_of keysOf-in-Rules clash given_before fault_of fault on_first split piece_of starts normal after_config_dir two_stars pattern_text covers prefix_of same_text some_of each_of
cases = refl
