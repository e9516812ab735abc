-- Loops that gather their verdict and never leave early: one law for all of them, over the rule that the loop tests. Assumes nothing.
use mathlib.Core.Path.{◌≡◌, refl, sym, ◌∙◌}
use mathlib.Core.List.{List, [], ◌∷◌}
use mathlib.Core.Bool.{Bool, true, false, not, ◌&&◌, ◌||◌, and-true, and_assoc, not-not}
use Prim.Native.Nat.{ℕ}
use native.Mathlib.Omega.{arith}
use lib.Dec.{eqb}
use Rattle.std.specs.List.{fold}
use lib.Bits.{bit_or, bit_and, bit_xor, or_add_and, and_le_r, or_zero_l}
use borrow.Author.Tests.{ne_eqb, eqb-true, eqb-false}
use Rattle.text.specs.Bytes.{Text}
use Rattle.text.specs.Text.{each_of}
use Rattle.text.proofs.Picks.{by_test}
use Rattle.strings.specs.Scan.{flag}

-- A byte is 0

-- an or is 0 where both are
pub or_none : (a b : ℕ) → eqb (bit_or a b) 0 ≡ eqb a 0 && eqb b 0
or_none a b =
    by_test (eqb a 0)
    (λ e. let z : a ≡ 0 = eqb-true a 0 e in rw (e, z, or_zero_l b))
    (λ e. let n : eqb (bit_or a b) 0 ≡ false = ne_eqb (bit_or a b) 0 (λ h. eqb-false a 0 e (omega (arith, h, or_add_and a b, and_le_r a b))) in rw (n, e))

pub flag_none : (t : Bool) → eqb (flag t) 0 ≡ not t
flag_none true = refl
flag_none false = refl

-- verdicts as bytes joined as verdicts

pub or_flag : (t u : Bool) → bit_or (flag t) (flag u) ≡ flag (t || u)
or_flag true true = refl
or_flag true false = refl
or_flag false true = refl
or_flag false false = refl

pub and_flag : (t u : Bool) → bit_and (flag t) (flag u) ≡ flag (t && u)
and_flag true true = refl
and_flag true false = refl
and_flag false true = refl
and_flag false false = refl

pub not_flag : (t : Bool) → bit_xor 1 (flag t) ≡ flag (not t)
not_flag true = refl
not_flag false = refl

-- A rule of each byte

-- as a fold says it
pub each_as_fold : (test : ℕ → Bool) (a : ℕ) (s : Text) → eqb (fold (λ a x. bit_or a (flag (not (test x)))) a s) 0 ≡ eqb a 0 && each_of test s
unfolding each_of
each_as_fold test a [] = sym (and-true (eqb a 0))
each_as_fold test a (x ∷ s) =
    each_as_fold test (bit_or a (flag (not (test x)))) s
    ∙ (rw (or_none a (flag (not (test x))), flag_none (not (test x)), not-not (test x)) refl ∙ and_assoc (eqb a 0) (test x) (each_of test s))

-- the same rule, said in two ways
pub each_same : {A : Type 0} (P Q : A → Bool) (l : List A) → ((x : A) → P x ≡ Q x) → each_of P l ≡ each_of Q l
unfolding each_of
each_same P Q [] h = refl
each_same P Q (x ∷ l) h = rw (h x, each_same P Q l h)
