-- What the iterators over what is read from a place give.
use Rattle.std.specs.Prelude.{ℕ, ◌≤◌, List, length, Option, IfSome}
use Rattle.std.specs.Borrow.{Bor}
use Rattle.std.specs.Iterator.{YieldsFirstRef, YieldsFirstBy}
use Rattle.text.specs.Bytes.{Text}
use Rattle.book.specs.Record.{strings, targets_of, keys_of}
use Rattle.book.specs.Record as told
use Rattle.record.specs.Read.{read}
use Rattle.record.specs.declared.place.Place.{Place}
use Rattle.record.specs.declared.lists.Strings.{Strings}
use Rattle.record.specs.declared.lists.Targets.{Targets}
use Rattle.record.specs.declared.lists.Key.{Key}
use Rattle.record.specs.declared.lists.Keys.{Keys}

-- a record of a checked book
abbrev pub Record : Type 0
Record = Place 512

-- the strings that are left
abbrev pub strings_left : {m : ℕ} → Strings m → List Text
strings_left s = strings s.place.text.now s.op (read s.place.commands.now s.place.at)

-- the targets that are left
abbrev pub targets_left : {m : ℕ} → Targets m → List Text
targets_left s = targets_of s.place.text.now (read s.place.commands.now s.place.at)

-- what a key says
abbrev pub key_of : {m : ℕ} → Key m → told.Key
key_of k = record { key = k.name.now; targets = targets_left k.targets }

-- the keys that are left
abbrev pub keys_left : {m : ℕ} → Keys m → List told.Key
keys_left s = keys_of s.place.text.now (read s.place.commands.now s.place.at)

-- the next string, which is short
pub record NextString (m : ℕ) (s : Strings m) (r : Option (Bor Text)) (t : Strings m) : Type 0 where
  pub first : YieldsFirstRef strings_left s r t
  pub short : IfSome r (λ x. length x.now ≤ m)

-- the next target, which is short
pub record NextTarget (m : ℕ) (s : Targets m) (r : Option (Bor Text)) (t : Targets m) : Type 0 where
  pub first : YieldsFirstRef targets_left s r t
  pub short : IfSome r (λ x. length x.now ≤ m)

-- the next key, which is short
pub record NextKey (m : ℕ) (s : Keys m) (r : Option (Key m)) (t : Keys m) : Type 0 where
  pub first : YieldsFirstBy key_of keys_left s r t
  pub short : IfSome r (λ k. length k.name.now ≤ m)
