-- Laws of a text that is one of four: what they say of its length and of the bytes at its places; and of what follows `${configDir}`. Assumes nothing.
use Rattle.std.proofs.Common.{◌≡◌, ℕ, ◌+◌, ◌||◌, ◌&&◌, Bool, true, false, eqb, [], ◌∷◌, length, take, drop, get_or, Option, Some, None, Bor, refl, sym, ◌∙◌, arith}
use Rattle.std.specs.Option.{MatchOption}
use Rattle.std.specs.Cmp.Lexicographic.{pointwise}
use Rattle.std.proofs.lemmas.Bool.Decides.{nat_tests}
use Rattle.text.specs.Bytes.{Text}
use Rattle.text.specs.Text.{prefix_of, same_text, some_of}
use Rattle.names.specs.Names.{config_dir, is_ts_extension, is_js_extension}

two : (s : Text) (x y : ℕ) → same_text s (x ∷ y ∷ []) ≡ (eqb (length s) 2 && (eqb (get_or s 0 0) x && eqb (get_or s 1 0) y))
unfolding same_text
two [] x y = refl
two (a ∷ []) x y = grind (arith, nat_tests)
two (a ∷ b ∷ []) x y = grind (arith, nat_tests)
two (a ∷ b ∷ c ∷ s) x y = grind (arith, nat_tests)

three : (s : Text) (x y z : ℕ) → same_text s (x ∷ y ∷ z ∷ []) ≡ (eqb (length s) 3 && (eqb (get_or s 0 0) x && (eqb (get_or s 1 0) y && eqb (get_or s 2 0) z)))
unfolding same_text
three [] x y z = refl
three (a ∷ []) x y z = grind (arith, nat_tests)
three (a ∷ b ∷ []) x y z = grind (arith, nat_tests)
three (a ∷ b ∷ c ∷ []) x y z = grind (arith, nat_tests)
three (a ∷ b ∷ c ∷ d ∷ s) x y z = grind (arith, nat_tests)

abbrev pub reads2 : Text → ℕ → ℕ → Bool
reads2 s x y = eqb (length s) 2 && (eqb (get_or s 0 0) x && eqb (get_or s 1 0) y)

abbrev pub reads3 : Text → ℕ → ℕ → ℕ → Bool
reads3 s x y z = eqb (length s) 3 && (eqb (get_or s 0 0) x && (eqb (get_or s 1 0) y && eqb (get_or s 2 0) z))

pub ts_reads : (s : Text) → is_ts_extension s ≡ (reads2 s 0x74 0x73 || (reads3 s 0x74 0x73 0x78 || (reads3 s 0x6D 0x74 0x73 || (reads3 s 0x63 0x74 0x73 || false))))
unfolding some_of
ts_reads s = simp (two, three)

pub js_reads : (s : Text) → is_js_extension s ≡ (reads2 s 0x6A 0x73 || (reads3 s 0x6A 0x73 0x78 || (reads3 s 0x6D 0x6A 0x73 || (reads3 s 0x63 0x6A 0x73 || false))))
unfolding some_of
js_reads s = simp (two, three)

pub ruleset reads = (ts_reads, js_reads, nat_tests)

-- what `strip_prefix` compares
begins : (p s : Text) → pointwise eqb (take (length p) s) p ≡ prefix_of p s
unfolding prefix_of
begins [] s = refl
begins (x ∷ p) [] = refl
begins (x ∷ p) (y ∷ s) = rw (begins p s) refl

pub stripped :
    (s : Text) (r : Option (Bor Text)) →
    MatchOption r (pointwise eqb (take 12 s) config_dir ≡ false) (λ x. (pointwise eqb (take 12 s) config_dir ≡ true) × (x.now ≡ drop 12 s) × (length x.now + 12 ≡ length s)) →
    MatchOption r (prefix_of config_dir s ≡ false) (λ x. (prefix_of config_dir s ≡ true) × (x.now ≡ drop 12 s))
stripped s None h = sym (begins config_dir s) ∙ h
stripped s (Some x) h = (sym (begins config_dir s) ∙ h.0, h.1)
