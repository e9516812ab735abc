-- For one command, given those before it, the lowest refusal that applies.
use Rattle.std.specs.Prelude.{ℕ, suc, ◌+◌, List, [], ◌∷◌, map, Bool, true, false, not, ◌&&◌, ◌||◌, cond, length, get_or, take, drop, eqb, leb}
use Rattle.std.specs.Prelude.{Option, Some, None}
use Rattle.book.specs.declared.Cmd.{Cmd}
use Rattle.text.specs.Bytes.{Text}
use Rattle.text.specs.Text.{same_text, some_of}
use Rattle.book.specs.Command.{begin, include_item, exclude_item, extends, key, target, reference, flag, text_option}
use Rattle.strings.specs.Strings.{string_rule}
use Rattle.path_rules.specs.Paths.{record_path, lead_rule}
use Rattle.patterns.specs.Patterns.{pattern_rule}
use Rattle.compare.specs.Compare.{covers}

-- What stands before a command: the records that are closed, and the commands of the open one, none if none is open. Newest first.
pub record Before : Type 0 where
  pub records : List (List Cmd)
  pub here : List Cmd

-- "BEGIN S (path)", "S is start and length": a command's string, empty where it has none
unfoldable pub text_of : Text → Cmd → Text
text_of text c = take c.len (drop c.start text)

-- What a command counts as: its byte, but each flag id and each text id by itself.
unfoldable pub slot : Cmd → ℕ
slot c = cond (eqb c.op flag) (0x15 + c.id) (cond (eqb c.op text_option) (0x20 + c.id) c.op)

-- how many of a slot stand before; targets are counted from their key on
unfoldable pub tally : ℕ → List Cmd → ℕ
tally k [] = 0
tally k (d ∷ ds) = cond (eqb (slot d) k) (suc (tally k ds)) (cond (eqb (slot d) key && eqb k target) 0 (tally k ds))

-- "02, 04, 06, 0A and 0E make a list present, perhaps empty; items follow at any later place in the record": what each command must come after in its record
-- (all but BEGIN after a BEGIN)
abbrev pub openers : List ℕ
openers = 1 ∷ 0 ∷ 1 ∷ 2 ∷ 1 ∷ 4 ∷ 1 ∷ 6 ∷ 1 ∷ 1 ∷ 1 ∷ 10 ∷ 11 ∷ 1 ∷ 1 ∷ 14 ∷ 1 ∷ 1 ∷ 1 ∷ 1 ∷ 1 ∷ []

-- "At most: .. per record 8 extends entries, 16 references, 64 items in each of files, include, exclude, 32 keys, 8 root dirs; 8 targets per key"
-- 0: "other commands come once"
abbrev pub limits : List ℕ
limits = 0 ∷ 0 ∷ 0 ∷ 64 ∷ 0 ∷ 64 ∷ 0 ∷ 64 ∷ 8 ∷ 0 ∷ 0 ∷ 32 ∷ 8 ∷ 16 ∷ 0 ∷ 8 ∷ 0 ∷ 0 ∷ 0 ∷ 0 ∷ 0 ∷ []

-- the byte of the last command
abbrev pub last_op : List Cmd → ℕ
last_op [] = 0
last_op (d ∷ ds) = d.op

-- "Flag ids 0 to 10 and text ids 0 to 6", "value 0 or 1"
unfoldable pub in_range : Cmd → Bool
in_range c =
    cond (eqb c.op flag) (leb c.id 10 && leb c.value 1)
    (cond (eqb c.op text_option) (leb c.id 6) true)

-- The rules on order and number, over how many of each slot stand before, and the byte of the last command: the code keeps these two.
module _ (count : ℕ → ℕ) (last : ℕ) (c : Cmd) where
  -- what it must come after is there
  unfoldable pub opened : Bool
  opened = eqb (get_or openers c.op 0) 0 || not (eqb (count (get_or openers c.op 0)) 0)

  -- "08, 0D, items, keys and targets repeat; other commands come once, flags and text options once per id"
  unfoldable pub fresh : Bool
  fresh = not (eqb (get_or limits c.op 0) 0) || eqb (count (slot c)) 0

  -- "a target after its key with only targets between"
  unfoldable pub follows : Bool
  follows = not (eqb c.op target) || (eqb last key || eqb last target)

  -- "3: out of order, repeated, or an id or value out of range"
  unfoldable pub in_order : Bool
  in_order = in_range c && (opened && (fresh && follows))

  -- "5: one too many"; "At most: 64 records", of which there are n
  unfoldable pub too_many : ℕ → Bool
  too_many n =
      cond (eqb c.op begin) (leb 64 n)
      (not (eqb (get_or limits c.op 0) 0) && leb (get_or limits c.op 0) (count (slot c)))

-- the rule of its own that a command's string has
unfoldable pub own_rule : ℕ → Text → Bool
own_rule op s =
    cond (eqb op begin) (record_path s)
    (cond (eqb op extends || eqb op reference) (lead_rule s)
    (cond (eqb op include_item || eqb op exclude_item) (pattern_rule s) true))

-- "4: a string breaks its rule or leaves the text"
unfoldable pub good_string : Text → Cmd → Bool
good_string text c = leb (c.start + c.len) (length text) && (string_rule (text_of text c) && own_rule c.op (text_of text c))

-- "01 BEGIN S (path)": the path of a record, whose commands are given newest first
unfoldable pub path_of : Text → List Cmd → Text
path_of text [] = []
path_of text (c ∷ []) = text_of text c
path_of text (c ∷ d ∷ ds) = path_of text (d ∷ ds)

-- "0B key S": the keys among the commands
unfoldable pub keys_of : Text → List Cmd → List Text
keys_of text [] = []
keys_of text (d ∷ ds) = cond (eqb d.op key) (text_of text d ∷ keys_of text ds) (keys_of text ds)

-- "a path given before, or a record's path is an ancestor of another's"
unfoldable pub clash : Text → Text → Bool
clash p q = covers p q || covers q p

-- "6: a path given before, a key given before in its record, or a record's path is an ancestor of another's"
unfoldable pub given_before : List Text → List Text → ℕ → Text → Bool
given_before keys paths op s = cond (eqb op begin) (some_of (clash s) paths) (cond (eqb op key) (some_of (same_text s) keys) false)

-- "within a command the lowest number", over what is read off the commands before: the code keeps no more
unfoldable pub fault_of : Text → (ℕ → ℕ) → ℕ → ℕ → List Text → List Text → Cmd → Option ℕ
fault_of text count last n keys paths c =
    cond (in_order count last c)
    (cond (good_string text c)
    (cond (too_many count last c n) (Some 5)
    (cond (given_before keys paths c.op (text_of text c)) (Some 6) None))
    (Some 4))
    (Some 3)

-- the refusal of a command, given what stands before it
unfoldable pub fault : Text → Before → Cmd → Option ℕ
fault text b c =
    fault_of text (λ k. tally k b.here) (last_op b.here) (length b.records) (keys_of text b.here) (map (path_of text) b.records) c
