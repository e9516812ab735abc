-- Laws of one pattern, and of an item that is built to be one. Assumes nothing.
use mathlib.Core.Path.{◌≡◌, refl}
use mathlib.Core.List.{[], ◌∷◌, ◌++◌}
use mathlib.Core.Bool.{Bool, false, not, ◌&&◌, ◌||◌, cond}
use Prim.Native.Nat.{ℕ, suc, ◌+◌, ◌-◌, ◌≤◌}
use native.Mathlib.Omega.{arith}
use lib.ListN.{length, drop, length-append}
use lib.Dec.{eqb}
use Rattle.std.proofs.Common.{Option, Some, None, Bor, IsTrue}
use Rattle.std.proofs.lemmas.Bool.Decides.{nat_tests}
use Rattle.std.specs.Option.{MatchOption, option_copied}
use Rattle.std.specs.Cmp.Lexicographic.{pointwise}
use Rattle.text.specs.Bytes.{Text, bytes, slash}
use Rattle.text.specs.Text.{some_of, prefix_of}
use Rattle.text.proofs.Picks.{by_test}
use Rattle.names.specs.Names.{config_dir, is_ts_extension, is_js_extension}
use Rattle.emit.specs.declared.Output.{Output}
use Rattle.emit.specs.Output.{text_of, Puts, Becomes}
use Rattle.emit.proofs.Outputs.{puts_both, puts_first, becomes_text}
use Rattle.ends.specs.Ends.{last_piece}
use Rattle.tsconfig.specs.Claims.{allowed, outside, ends, is_special, implied}
use Rattle.tsconfig.specs.Build.{adjusted}
use Rattle.values.proofs.Lengths.{normalize_length, in_config_dir_length}

-- The last byte

pub ends_is : (b : ℕ) (s : Text) → pointwise eqb (b ∷ []) (drop (length s - 1) s) ≡ ends b s
unfolding ends
ends_is b [] = refl
ends_is b (x ∷ []) = grind (arith, nat_tests)
ends_is b (x ∷ y ∷ s) =
    let k : suc (suc (length s)) - 1 ≡ suc (length s) = omega arith in
    let z : suc (length s) - 1 ≡ length s = omega arith in
    rw k (rw z at (ends_is b (y ∷ s)))

-- What is told of an extension, where there is one

pub allowed_by :
    (js : Bool) (o : Option (Bor Text)) (r : Bool) (P : Bor Text → Type 0) →
    ((x : Bor Text) → P x → r ≡ (is_ts_extension x.now || (js && is_js_extension x.now))) → MatchOption o (r ≡ false) P → r ≡ allowed js (option_copied o)
unfolding allowed
allowed_by js None r P told h = h
allowed_by js (Some x) r P told h = told x h

pub outside_by :
    (js : Bool) (o : Option (Bor Text)) (r : Bool) (P : Bor Text → Type 0) →
    ((x : Bor Text) → P x → r ≡ (not js && is_js_extension x.now)) → MatchOption o (IsTrue r) P → r ≡ outside js (option_copied o)
unfolding outside
outside_by js None r P told h = h
outside_by js (Some x) r P told h = told x h

-- The implicit pattern

-- what is behind a pattern whose last piece is a plain name
abbrev pub stars : Text → Text
stars p = cond (ends slash p) (bytes "**/*") (bytes "/**/*")

stars_size : (p : Text) → length (stars p) ≤ 5
stars_size p = by_test (ends slash p) (λ t. rw t (omega arith)) (λ f. rw f (omega arith))

-- it is written behind the pattern, to output of which nothing was written
module _
    (p x : Text) (o u v : Output) (z : o.at ≡ 0) (h : length p + 5 ≤ length o.bytes.now)
    (f : some_of is_special (last_piece p) ≡ false) (a : Puts p o u) (e : x ≡ stars p) (b : Puts x u v) where
  whole : Becomes (p ++ stars p) o v
  whole = puts_first (p ++ stars p) o v z (omega (arith, length-append p (stars p), stars_size p)) (puts_both p (stars p) o u v a (rw e at b))

  pub implied_fits : v.at ≤ length v.bytes.now
  implied_fits = omega (arith, whole.holds.size, whole.long, length-append p (stars p), stars_size p)

  pub implied_text : text_of v ≡ implied p
  unfolding implied
  implied_text = rw f (becomes_text (p ++ stars p) o v whole)

-- An item, built in the directory that it is also read from

pub built_length : (dir s : Text) → length (adjusted dir dir s) ≤ length dir + 1 + length s
unfolding adjusted
built_length dir s = by_test (prefix_of config_dir s) (λ t. rw t (in_config_dir_length dir s)) (λ f. rw f (normalize_length dir s))
