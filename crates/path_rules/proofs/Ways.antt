-- The rules as the code tests them. Assumes nothing.
use mathlib.Core.Path.{◌≡◌, refl, sym, ◌∙◌}
use mathlib.Core.List.{[], ◌∷◌}
use mathlib.Core.Bool.{Bool, true, false, not, ◌&&◌, ◌||◌, and-false}
use Prim.Native.Nat.{ℕ, ◌-◌, ◌<◌}
use native.Mathlib.Omega.{arith}
use lib.ListN.{length, get_or}
use lib.Dec.{eqb, leb}
use Rattle.std.proofs.lemmas.Bool.Decides.{nat_tests}
use Rattle.text.specs.Bytes.{Text, bytes, slash}
use Rattle.text.specs.Text.{some_of, each_of}
use Rattle.components.specs.Components.{starts}
use Rattle.path.specs.Path.{normal}
use Rattle.strings.specs.Strings.{none_of, string_rule}
use Rattle.strings.proofs.Gather.{each_same}
use Rattle.normal.proofs.Names.{normal_by}
use Rattle.path_rules.specs.Paths.{record_path, asked_path}
use Rattle.path_rules.proofs.Places.{all_plain, plain_free}

-- Barred bytes: those of a record's path are those of a pattern and three more, and a byte named again bars nothing more

pub swap : (a b c d : Bool) → (a && b) && (c && d) ≡ (a && c) && (b && d)
swap a b c d = grind (arith, nat_tests)

each_both : (P Q B : ℕ → Bool) (s : Text) → ((x : ℕ) → B x ≡ P x && Q x) → each_of B s ≡ each_of P s && each_of Q s
unfolding each_of
each_both P Q B [] h = refl
each_both P Q B (x ∷ s) h = rw (h x, each_both P Q B s h) (swap (P x) (Q x) (each_of P s) (each_of Q s))

record_bytes : (s : Text) → each_of (none_of (bytes "*?{}[]!#")) s ≡ each_of (none_of (bytes "{}[]!")) s && each_of (none_of (bytes "*?#")) s
unfolding some_of
record_bytes s =
    each_both (none_of (bytes "{}[]!")) (none_of (bytes "*?#")) (none_of (bytes "*?{}[]!#")) s
    (λ x. parts (eqb x 0x2A) (eqb x 0x3F) (eqb x 0x7B) (eqb x 0x7D) (eqb x 0x5B) (eqb x 0x5D) (eqb x 0x21) (eqb x 0x23))
  where
    parts : (a b c d e f g h : Bool) → not (a || (b || (c || (d || (e || (f || (g || (h || false)))))))) ≡ not (c || (d || (e || (f || (g || false))))) && not (a || (b || (h || false)))
    parts a b c d e f g h = grind (arith, nat_tests)

asked_bytes : (s : Text) → each_of (none_of (bytes "?##")) s ≡ each_of (none_of (bytes "?#")) s
unfolding some_of
asked_bytes s = each_same (none_of (bytes "?##")) (none_of (bytes "?#")) s (λ x. again (eqb x 0x3F) (eqb x 0x23))
  where
    again : (a b : Bool) → not (a || (b || (b || false))) ≡ not (a || (b || false))
    again a b = grind (arith, nat_tests)

-- The path of a record

-- s has no bracket
module _ (s : Text) (bare : each_of (none_of (bytes "{}[]!")) s ≡ true) where
  pub record_by : record_path s ≡ not (leb (length s) 1) && (each_of (none_of (bytes "*?#")) s && normal s)
  unfolding record_path
  record_by = rw (record_bytes s, bare) (grind (arith, nat_tests))

  -- s is long, and plain
  pub record_plain : 1 < length s → starts slash s ≡ true → (get_or s (length s - 1) 0 ≡ slash → ⊥) → all_plain s → record_path s ≡ true
  record_plain h a l p = let e = normal_by s in let f = plain_free s a l p in record_by ∙ grind (arith, nat_tests)

pub record_bracket : (s : Text) → each_of (none_of (bytes "{}[]!")) s ≡ false → false ≡ record_path s
unfolding record_path
record_bracket s f = sym (rw (record_bytes s, f, and-false (not (leb (length s) 1))) (and-false (normal s)))

-- An asked path

pub asked_by : (s : Text) → asked_path s ≡ string_rule s && (each_of (none_of (bytes "?##")) s && normal s)
unfolding asked_path
asked_by s = rw (asked_bytes s) (grind (arith, nat_tests))
