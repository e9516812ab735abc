-- The strings of a record, built in a directory. Assumes nothing.
use Rattle.std.proofs.Common.{◌≡◌, ℕ, Some, None, List, ◌∷◌, length, map, ap, Bor}
use Rattle.std.proofs.lemmas.Iterator.{YieldsList}
use Rattle.std.proofs.lemmas.Iterator.Consumers.{YieldsList-from_shown}
use Rattle.text.specs.Bytes.{Text}
use Rattle.book.specs.Record.{strings}
use Rattle.record.specs.Read.{read}
use Rattle.record.specs.Lists.{Record, strings_left, NextString}
use Rattle.record.specs.declared.lists.Strings.{Strings}
use Rattle.tsconfig.specs.Build.{adjusted}

module _ (dir : Text) where
  abbrev left : Strings 512 → List Text
  left s = map (adjusted dir dir) (strings_left s)

  none_left : (s t : Strings 512) → NextString 512 s None t → length (left s) ≡ 0
  none_left s t h = ap (λ l. length (map (adjusted dir dir) l)) h.first.0

  next_left : (s : Strings 512) (x : Bor Text) (t : Strings 512) → NextString 512 s (Some x) t → left s ≡ adjusted dir dir x.now ∷ left t
  next_left s x t h = ap (map (adjusted dir dir)) h.first

  pub built_strings :
      (r : Record) (op : ℕ) (s : Strings 512) → s.place ≡ r → s.op ≡ op →
      YieldsList (NextString 512) (λ (x : Bor Text). adjusted dir dir x.now) s (map (adjusted dir dir) (strings r.text.now op (read r.commands.now r.at)))
  built_strings r op s e f = rw (← e, ← f) (YieldsList-from_shown (NextString 512) (λ (x : Bor Text). adjusted dir dir x.now) left none_left next_left s)
