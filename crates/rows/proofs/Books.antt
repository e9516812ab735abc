-- The records of an accepted book, from the tables of its check. Assumes nothing.
use mathlib.Core.Path.{◌≡◌, refl, sym, ap, subst, ◌∙◌}
use mathlib.Core.List.{List, [], ◌∷◌, map}
use mathlib.Core.Bool.{Bool, true, false, ◌||◌, cond}
use Prim.Native.Nat.{ℕ, ◌≤◌, ◌<◌}
use native.Mathlib.Omega.{arith}
use lib.Dec.{ltb}
use lib.ListN.{length, get_or, take, length-map}
use lib.Seq.{get_or-take, length-take-le}
use Rattle.std.proofs.lemmas.List.{get_or-map}
use borrow.Author.Tests.{ltb-false}
use Rattle.text.specs.Bytes.{Text}
use Rattle.text.proofs.Picks.{by_test}
use Rattle.book.specs.declared.Cmd.{Cmd}
use Rattle.book.specs.Answer.{refused, given}
use Rattle.book.specs.Book.{verdict, judge, nothing}
use Rattle.book.specs.Command.{decode}
use Rattle.book.specs.Index as index
use Rattle.book.specs.Index.{AcceptedAs, begin_of, no_row}
use Rattle.book.specs.declared.IndexRow.{IndexRow}
use Rattle.book.specs.Record.{record_path_of}
use Rattle.book.specs.Sound.{Sound}
use Rattle.verdicts.proofs.Accepted.{accepted_sound, all_at}
use Rattle.records.proofs.Paths.{table_paths}
use Rattle.tsconfig.specs.Parsed.{Parsed, parsed, parse}
use Rattle.tsconfig_resolver.specs.Find.{record_at, paths_of, blank}
use Rattle.rows.specs.Records.{parsed_of, records_of, Records, Paths}

no_answer : {X : Type 0} {n p : ℕ} {rs : List (List Cmd)} → refused n p ≡ given rs → X
no_answer e = let z : ◌≡◌ {A = ℕ} 0 1 = cc in absurd (omega (arith, z))

or_left : (a b : Bool) → a || b ≡ false → a ≡ false
or_left false b e = refl
or_left true b e = e

-- "commands (at most 32,768 bytes)"
pub accepted_small : (commands text : Text) (rs : List (List Cmd)) → verdict commands text ≡ given rs → length commands ≤ 32768
unfolding verdict
accepted_small commands text rs e =
    by_test (ltb 32768 (length commands) || ltb 65535 (length text))
    (λ y. no_answer (sym (ap (λ (t : Bool). cond t (refused 1 0) (judge text nothing (decode 0 0 commands))) y) ∙ e))
    (λ y. ltb-false 32768 (length commands) (or_left (ltb 32768 (length commands)) (ltb 65535 (length text)) y))

-- the records are those of the verdict, parsed
pub accepted_records : (commands text : Text) (rs : List (List Cmd)) → verdict commands text ≡ given rs → records_of commands text ≡ map (parsed text) rs
unfolding records_of
accepted_records commands text rs e = ap (parsed_of text) e

paths_parsed : (text : Text) (rs : List (List Cmd)) → map (record_path_of text) rs ≡ paths_of (map (parsed text) rs)
unfolding parsed parse
paths_parsed text [] = refl
paths_parsed text (r ∷ rs) = ap (λ (l : List Text). record_path_of text r ∷ l) (paths_parsed text rs)

module _ (commands text : Text) (rows : List IndexRow) (n : ℕ) (long : n ≤ length rows) (a : AcceptedAs commands text rows n) where
  same : records_of commands text ≡ map (parsed text) a.records
  same = accepted_records commands text a.records a.accepted

  -- how many there are
  pub accepted_size : length (records_of commands text) ≡ length (take n rows)
  accepted_size = ap length same ∙ length-map a.records (parsed text) ∙ a.size ∙ sym (length-take-le n rows long)

  module _ (i : ℕ) (h : i < length (records_of commands text)) where
    inside : i < n
    inside = omega (arith, h, accepted_size, length-take-le n rows long)

    reads : get_or a.records i [] ≡ index.record_at commands (begin_of (take n rows) i)
    reads = (a.each i inside).reads ∙ ap (λ (row : IndexRow). index.record_at commands row.begin) (sym (get_or-take n rows i no_row inside))

    reads_parsed : record_at (records_of commands text) i ≡ parsed text (index.record_at commands (begin_of (take n rows) i))
    reads_parsed = ap (λ (l : List Parsed). get_or l i blank) same ∙ get_or-map (parsed text) a.records i [] blank (omega (arith, inside, a.size)) ∙ ap (parsed text) reads

    reads_sound : Sound text (index.record_at commands (begin_of (take n rows) i))
    reads_sound = subst (Sound text) reads (all_at (Sound text) a.records [] (accepted_sound text commands a.records a.accepted) i (omega (arith, inside, a.size)))

  pub accepted : Records commands text (take n rows)
  accepted = record {
    few = omega (arith, ap length same ∙ length-map a.records (parsed text), a.size, a.few);
    there = omega (arith, accepted_size);
    small = accepted_small commands text a.records a.accepted;
    reads = reads_parsed;
    sound = reads_sound;
  }

  pub accepted_paths : Paths commands text (take n rows)
  accepted_paths = record {
    size = accepted_size;
    paths = table_paths commands text rows n long a ∙ paths_parsed text a.records ∙ ap paths_of (sym same);
  }

-- where the book is refused there are none
pub refused_records : (commands text : Text) (k p : ℕ) → verdict commands text ≡ refused k p → records_of commands text ≡ []
unfolding records_of
refused_records commands text k p e = ap (parsed_of text) e
