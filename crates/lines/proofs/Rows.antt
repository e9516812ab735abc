-- What one turn of a loop over lines writes, and what is left. Assumes nothing.
use Rattle.std.proofs.Common.{◌≡◌, ℕ, List, [], ◌∷◌, ◌++◌, map, Option, Some, None, Bor, refl, subst}
use Rattle.std.specs.Iterator.{YieldsFirstRef, YieldsFirstBy}
use mathlib.Core.Path.{sym}
use mathlib.Core.List.{append_assoc}
use Rattle.text.specs.Bytes.{Text, bytes}
use Rattle.emit.specs.Emit.{Room}
use Rattle.emit.specs.Output.{Puts}
use Rattle.emit.specs.declared.Output.{Output}
use Rattle.emit.proofs.Outputs.{puts_none}
use Rattle.book.specs.Record.{Key}
use Rattle.record.specs.Lists.{strings_left, targets_left, keys_left, key_of, NextString, NextTarget, NextKey}
use Rattle.record.specs.declared.lists.Strings.{Strings}
use Rattle.record.specs.declared.lists.Targets.{Targets}
use Rattle.record.specs.declared.lists.Keys.{Keys}
use Rattle.record.specs.declared.lists.Key as lists
use Rattle.tsconfig.specs.Listing.{row, rows, key_rows}
use Rattle.lines.specs.Lines.{built_key, key_text}

-- nothing is written
pub puts_nothing : (x : Text) (o : Output) → x ≡ [] → Puts x o o
puts_nothing x o e = rw e (puts_none o)

-- the same text otherwise said
pub room_as : {x y : Text} {at : ℕ} → x ≡ y → Room at x → Room at y
room_as {x} {y} {at} e h = subst (Room at) e h

module _ (name : Text) {l : List Text} where
  pub rows_end : l ≡ [] → rows name l ≡ []
  unfolding rows
  rows_end e = rw e refl

  pub rows_turn : {v : Text} {vs : List Text} → l ≡ v ∷ vs → rows name l ≡ row name v ++ rows name vs
  unfolding rows
  rows_turn e = rw e refl

-- the lines of a key, and then of the others
pub keys_end : (l : List Key) → l ≡ [] → key_rows l ≡ []
unfolding key_rows
keys_end l e = rw e refl

pub keys_turn : (dir base : Text) {l : List Key} {k : Key} {ks : List Key} → l ≡ k ∷ ks → key_rows (map (built_key dir base) l) ≡ key_text dir base k ++ key_rows (map (built_key dir base) ks)
unfolding key_rows
keys_turn dir base {l} {k} {ks} e =
    let key : Key = built_key dir base k in
    rw e (sym (append_assoc (row (bytes "key") k.key) (rows (bytes "target") key.targets) (key_rows (map (built_key dir base) ks))))

-- what a call of next gave is the first of what was left

module _ {m : ℕ} {s : Strings m} {r : Option (Bor Text)} {t : Strings m} (n : NextString m s r t) where
  pub first_string : {x : Bor Text} → r ≡ Some x → strings_left s ≡ x.now ∷ strings_left t
  first_string {x} e = subst (λ (o : Option (Bor Text)). YieldsFirstRef strings_left s o t) e n.first

  pub last_string : r ≡ None → strings_left s ≡ []
  last_string e = (subst (λ (o : Option (Bor Text)). YieldsFirstRef strings_left s o t) e n.first).0

module _ {m : ℕ} {s : Targets m} {r : Option (Bor Text)} {t : Targets m} (n : NextTarget m s r t) where
  pub first_target : {x : Bor Text} → r ≡ Some x → targets_left s ≡ x.now ∷ targets_left t
  first_target {x} e = subst (λ (o : Option (Bor Text)). YieldsFirstRef targets_left s o t) e n.first

  pub last_target : r ≡ None → targets_left s ≡ []
  last_target e = (subst (λ (o : Option (Bor Text)). YieldsFirstRef targets_left s o t) e n.first).0

module _ {m : ℕ} {s : Keys m} {r : Option (lists.Key m)} {t : Keys m} (n : NextKey m s r t) where
  pub first_key : {x : lists.Key m} → r ≡ Some x → keys_left s ≡ key_of x ∷ keys_left t
  first_key {x} e = subst (λ (o : Option (lists.Key m)). YieldsFirstBy key_of keys_left s o t) e n.first

  pub last_key : r ≡ None → keys_left s ≡ []
  last_key e = (subst (λ (o : Option (lists.Key m)). YieldsFirstBy key_of keys_left s o t) e n.first).0
