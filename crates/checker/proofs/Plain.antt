-- A text that is looked at part by part. Assumes nothing.
use mathlib.Core.Path.{◌≡◌, refl, sym, subst, ◌∙◌}
use mathlib.Core.List.{List}
use mathlib.Core.Bool.{Bool, true, false, ◌&&◌, true≢false}
use Rattle.std.proofs.lemmas.Bool.{and_parts}
use Prim.Native.Nat.{ℕ, zero, suc, ◌+◌, ◌*◌, ◌≤◌, ◌<◌}
use native.Mathlib.Omega.{arith}
use lib.ListN.{length, get_or, set, drop, replicate, length-set, length-replicate, drop_of_length-le}
use lib.Seq.{drop-drop, get_or-set_same, get_or-set_other}
use lib.Dec.{eqb, leb}
use borrow.Author.Tests.{eqb-true, eqb-false}
use Rattle.text.specs.Bytes.{Text}
use Rattle.text.specs.Text.{each_of}
use Rattle.text.proofs.Picks.{by_test}
use Rattle.strings.specs.Strings.{plain_byte, string_rule}
use Rattle.strings.specs.Scan.{tame_byte, tame_text}
use Rattle.strings.proofs.Tame.{tame_plain}
use Rattle.faults.specs.Parts.{part_of}
use Rattle.faults.proofs.Keeps.{each_split}

-- where what is left of the text behind part i keeps P, all of it does
abbrev pub kept_before : (ℕ → Bool) → Text → ℕ → Type 0
kept_before P text i = each_of P (drop (512 * i) text) ≡ true → each_of P text ≡ true

-- before part i: what is before is plain, and tame where all so far is; and the parts that are noted are tame
pub record Looked (text : Text) (all : Bool) (parts : List Bool) (i : ℕ) : Type 0 where
  pub plain : kept_before plain_byte text i
  pub all_tame : all ≡ true → kept_before tame_byte text i
  pub tame : (k : ℕ) → get_or parts k false ≡ true → tame_text (part_of text k) ≡ true
  pub size : length parts ≡ 129

-- of no parts none is noted
pub none_noted : (n : ℕ) (A : Type 0) (k : ℕ) → get_or (replicate n false) k false ≡ true → A
none_noted n A k e = absurd (true≢false (sym e ∙ nothing n k))
  where
    nothing : (n k : ℕ) → get_or (replicate n false) k false ≡ false
    nothing zero k = refl
    nothing (suc n) zero = refl
    nothing (suc n) (suc k) = nothing n k

pub looked_none : (text : Text) → Looked text true (replicate 129 false) 0
looked_none text =
    record { plain = λ e. e; all_tame = λ u e. e; tame = λ k. none_noted 129 (tame_text (part_of text k) ≡ true) k; size = length-replicate 129 false }

-- a part that keeps P may be left behind
kept_next : (P : ℕ → Bool) (text : Text) (i : ℕ) → kept_before P text i → each_of P (part_of text i) ≡ true → kept_before P text (i + 1)
kept_next P text i s p h = s (each_split P 512 (drop (512 * i) text) ∙ rw (p, drop-drop 512 (512 * i) text) on)
  where
    on : each_of P (drop (512 * i + 512) text) ≡ true
    on = let q : 512 * (i + 1) ≡ 512 * i + 512 = omega arith in subst (λ (k : ℕ). each_of P (drop k text) ≡ true) q h

module _ (text : Text) (all : Bool) (parts : List Bool) (i : ℕ) (s : Looked text all parts i) (t : Bool) (d : t ≡ tame_text (part_of text i)) (inside : i < 129) where
  noted : (k : ℕ) → get_or (set parts i t) k false ≡ true → tame_text (part_of text k) ≡ true
  noted k e =
      by_test (eqb k i)
      (λ y.
      let q : k ≡ i = eqb-true k i y in
      let same : get_or (set parts i t) k false ≡ t = rw q (get_or-set_same parts i t false (omega (arith, inside, s.size))) in
      rw q (sym d ∙ sym same ∙ e))
      (λ y. s.tame k (sym (get_or-set_other parts i k t false (eqb-false k i y)) ∙ e))

  all_noted : (all && t) ≡ true → kept_before tame_byte text (i + 1)
  unfolding tame_text
  all_noted e = let both = and_parts all t e in kept_next tame_byte text i (s.all_tame both.0) (sym d ∙ both.1)

  -- the part is plain
  pub looked_next : each_of plain_byte (part_of text i) ≡ true → Looked text (all && t) (set parts i t) (i + 1)
  looked_next p = record { plain = kept_next plain_byte text i s.plain p; all_tame = all_noted; tame = noted; size = length-set parts i t ∙ s.size }

  pub plain_tame : t ≡ true → each_of plain_byte (part_of text i) ≡ true
  plain_tame e = tame_plain (part_of text i) (sym d ∙ e)

-- a part that is a string is plain
pub plain_string : (s : Text) (r : Bool) → r ≡ string_rule s → r ≡ true → each_of plain_byte s ≡ true
unfolding string_rule
plain_string s r d e = (and_parts (leb (length s) 512) _ (sym d ∙ e)).1

-- where nothing is left of the text, all of it keeps P
pub kept_all : (P : ℕ → Bool) (text : Text) (i : ℕ) → length text ≤ 512 * i → kept_before P text i → each_of P text ≡ true
unfolding each_of
kept_all P text i h s = s (rw (drop_of_length-le text h) refl)
