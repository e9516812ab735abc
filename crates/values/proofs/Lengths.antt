-- How long the built forms and the parts of a record are. Assumes nothing.
use mathlib.Core.Path.{◌≡◌, refl}
use mathlib.Core.List.{List, [], ◌∷◌, ◌++◌}
use mathlib.Core.Bool.{Bool}
use Prim.Native.Nat.{ℕ, suc, ◌+◌, ◌-◌, ◌≤◌, ◌<◌}
use native.Mathlib.Omega.{arith}
use lib.ListN.{length, drop, length-append, length-drop, length-map}
use lib.Dec.{eqb}
use Rattle.text.specs.Bytes.{Text, slash}
use Rattle.names.specs.Names.{config_dir}
use Rattle.text.specs.Text.{prefix_of}
use Rattle.components.specs.Components.{on_first, split}
use Rattle.join.specs.Join.{joint, push_of, step_of, walk_of, normalize_with}
use Rattle.text.proofs.Picks.{by_test}
use Rattle.join.proofs.Pieces.{step_length}
use Rattle.join.proofs.Buffer.{joint_size}
use Rattle.book.specs.declared.Cmd.{Cmd}
use Rattle.book.specs.Command.{command, key, target, end}
use Rattle.book.specs.Rules.{text_of}
use Rattle.book.specs.Record.{is, only, strings, targets_of, keys_of}
use Rattle.book.specs.Index.{up_to_end, record_at}
use Rattle.items.proofs.Reading.{read_from, by_reading}
use Rattle.tsconfig.specs.Parsed.{placed}
use Rattle.tsconfig.specs.Build.{without_slashes, in_config_dir, substituted, adjusted}

-- Joining piece by piece

-- how much the pieces may add: each its bytes, and a slash before it
unfoldable sizes : List Text → ℕ
sizes [] = 0
sizes (p ∷ ps) = 1 + length p + sizes ps

walk_length : (s : Text) (ps : List Text) → length (walk_of s ps) ≤ length s + sizes ps
unfolding walk_of sizes
walk_length s [] = omega arith
walk_length s (p ∷ ps) = omega (arith, walk_length (step_of s p) ps, step_length s p)

first_sizes : (x : ℕ) (ps : List Text) (n : ℕ) → sizes ps ≡ suc n → sizes (on_first x ps) ≡ suc (suc n)
unfolding on_first sizes
first_sizes x [] n e = absurd (omega (arith, e))
first_sizes x (p ∷ ps) n e = omega (arith, e)

split_sizes : (s : Text) → sizes (split s) ≡ suc (length s)
unfolding split sizes
split_sizes [] = refl
split_sizes (x ∷ s) = by_test (eqb x slash) (λ t. rw t (omega (arith, split_sizes s))) (λ f. rw f (first_sizes x (split s) (length s) (split_sizes s)))

pub normalize_length : (base s : Text) → length (normalize_with base s) ≤ length base + 1 + length s
unfolding normalize_with
normalize_length base [] = omega arith
normalize_length base (x ∷ s) = by_test (eqb x slash) (λ t. rw t (omega arith)) (λ f. rw f (omega (arith, walk_length base (split (x ∷ s)), split_sizes (x ∷ s))))

-- The built forms

pub without_slashes_length : (s : Text) → length (without_slashes s) ≤ length s
unfolding without_slashes
without_slashes_length [] = omega arith
without_slashes_length (x ∷ s) = by_test (eqb x slash) (λ t. rw t (omega (arith, without_slashes_length s))) (λ f. rw f (omega arith))

pub in_config_dir_length : (dir s : Text) → length (in_config_dir dir s) ≤ length dir + 1 + length s
unfolding in_config_dir push_of
in_config_dir_length dir s =
    let rest : Text = without_slashes (drop 12 s) in
    omega (arith, length-append dir (joint dir ++ rest), length-append (joint dir) rest, joint_size dir, without_slashes_length (drop 12 s), length-drop 12 s)

pub substituted_length : (dir s : Text) → length (substituted dir s) ≤ length dir + 1 + length s
unfolding substituted
substituted_length dir s = by_test (prefix_of config_dir s) (λ t. rw t (in_config_dir_length dir s)) (λ f. rw f (omega arith))

pub adjusted_length : (dir from s : Text) → length (adjusted dir from s) ≤ length dir + length from + 1 + length s
unfolding adjusted
adjusted_length dir from s = by_test (prefix_of config_dir s) (λ t. rw t (omega (arith, in_config_dir_length dir s))) (λ f. rw f (omega (arith, normalize_length from s)))

pub placed_length : (dir s : Text) → length (placed dir s) ≤ length dir + 1 + length s
unfolding placed
placed_length dir s = by_test (prefix_of config_dir s) (λ t. rw t (omega arith)) (λ f. rw f (normalize_length dir s))

-- A record and its parts

record_command : (s : Text) (at : ℕ) (c : Cmd) (n : ℕ) → at < n → n ≤ length s → length (up_to_end (read_from s n)) ≤ length s - n → length (up_to_end (command at c (read_from s n))) ≤ length s - at
unfolding up_to_end
record_command s at c n l w h = by_test (eqb c.op end) (λ t. rw t (omega arith)) (λ f. rw f (omega (arith, l, w, h)))

pub record_length : (s : Text) (at : ℕ) → length (record_at s at) ≤ length s
unfolding record_at up_to_end
record_length s at =
    let h : length (up_to_end (read_from s at)) ≤ length s - at = by_reading s (λ a d. length (up_to_end d) ≤ length s - a) (λ a. omega arith) (λ a. omega arith) (record_command s) at in
    omega (arith, h)

only_length : (ok : Cmd → Bool) (r : List Cmd) → length (only ok r) ≤ length r
unfolding only
only_length ok [] = omega arith
only_length ok (c ∷ r) = by_test (ok c) (λ t. rw t (omega (arith, only_length ok r))) (λ f. rw f (omega (arith, only_length ok r)))

module _ (text : Text) where
  pub strings_length : (op : ℕ) (r : List Cmd) → length (strings text op r) ≤ length r
  unfolding strings
  strings_length op r = omega (arith, length-map (only (is op) r) (text_of text), only_length (is op) r)

  pub targets_length : (r : List Cmd) → length (targets_of text r) ≤ length r
  unfolding targets_of
  targets_length [] = omega arith
  targets_length (c ∷ r) = by_test (is target c) (λ t. rw t (omega (arith, targets_length r))) (λ f. rw f (omega arith))

  pub keys_length : (r : List Cmd) → length (keys_of text r) ≤ length r
  unfolding keys_of
  keys_length [] = omega arith
  keys_length (c ∷ r) = by_test (is key c) (λ t. rw t (omega (arith, keys_length r))) (λ f. rw f (omega (arith, keys_length r)))
