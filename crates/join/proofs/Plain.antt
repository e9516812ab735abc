-- A subpath whose pieces are told at once to be names: how that is seen byte by byte, and that its pieces joined one after the other are the subpath joined
-- at once. Assumes nothing.
use mathlib.Core.Path.{◌≡◌, refl, sym, ap, ◌∙◌}
use lib.Seq.{get_or-append_seam, drop-cons}
use Rattle.std.proofs.lemmas.Bool.{and_parts}
use mathlib.Core.List.{List, [], ◌∷◌, ◌++◌, append_assoc, append-nil}
use mathlib.Core.Bool.{Bool, true, false, not, ◌&&◌, ◌||◌}
use Prim.Native.Nat.{ℕ, suc, ◌+◌, ◌-◌, ◌≤◌, ◌<◌}
use native.Mathlib.Omega.{arith}
use lib.ListN.{length, get_or, drop, length-append, drop_of_length-le}
use lib.Dec.{eqb}
use borrow.Author.Tests.{eqb-true, eqb-false, not-true}
use Rattle.text.specs.Bytes.{Text, slash, dot}
use Rattle.std.specs.List.{list_all, slice_split}
use Rattle.text.specs.Text.{each_of}
use Rattle.text.proofs.Scans.{each_as_std}
use Rattle.text.proofs.Picks.{by_test}
use Rattle.components.specs.Components.{split, on_first, piece_of, starts}
use Rattle.components.specs.Places.{first_of}
use Rattle.components.specs.declared.Piece.TheVariants.{Name}
use Rattle.components.proofs.Pieces.{by_split, piece_name, split_as_std}
use Rattle.join.specs.Join.{joint, push_of, step_of, step_by, walk_of}
use Rattle.join.specs.Plain.{opens_name, plain_name, plain_names}
use Rattle.join.proofs.Buffer.{joint_some}

-- what `all` over the pieces answers
pub plain_as_std : (s : Text) → list_all plain_name (slice_split (λ (x : ℕ). eqb x slash) s) ≡ plain_names s
unfolding plain_names
plain_as_std s = rw (split_as_std s) (each_as_std plain_name (split s))

-- Where each piece is a plain name, one begins at the start and behind each slash

-- a name begins behind each slash of s; where s ends, a slash is read
unfoldable pub names_after : Text → Bool
names_after [] = true
names_after (x ∷ s) = (not (eqb x slash) || opens_name (get_or s 0 slash)) && names_after s

first_plain : (u : Text) → plain_name (first_of (split u)) ≡ opens_name (get_or u 0 slash)
unfolding split on_first plain_name
first_plain [] = refl
first_plain (x ∷ u) = by_test (eqb x slash) (λ t. rw t) (λ f. rw f (grown (split u)))
  where
    grown : (q : List Text) → plain_name (first_of (on_first x q)) ≡ not (eqb x dot)
    grown [] = refl
    grown (p ∷ ps) = refl

-- every piece but the first
abbrev others : List Text → List Text
others [] = []
others (p ∷ ps) = ps

each_first : (u : Text) → each_of plain_name (split u) ≡ plain_name (first_of (split u)) && each_of plain_name (others (split u))
unfolding each_of
each_first u = by_split u (λ p ps e. rw e)

after_others : (s : Text) → names_after s ≡ each_of plain_name (others (split s))
unfolding names_after split on_first each_of
after_others [] = refl
after_others (x ∷ s) =
    by_test (eqb x slash)
    (λ t. rw (t, ← first_plain s, after_others s) (sym (each_first s)))
    (λ f. rw (f, after_others s) (same (split s)))
  where
    same : (q : List Text) → each_of plain_name (others q) ≡ each_of plain_name (others (on_first x q))
    same [] = refl
    same (p ∷ ps) = refl

plain_after : (s : Text) → plain_names s ≡ opens_name (get_or s 0 slash) && names_after s
unfolding plain_names
plain_after s = each_first s ∙ rw (first_plain s, after_others s)

-- what is seen byte by byte: what stands behind a slash, and that none ends the text

pub plain_none : (s : Text) → eqb (length s) 0 ≡ true → false ≡ plain_names s
unfolding plain_names plain_name split each_of
plain_none [] h = refl
plain_none (x ∷ s) h = absurd (omega (arith, eqb-true (length (x ∷ s)) 0 h))

first_byte : (s : Text) → 0 < length s → get_or s 0 slash ≡ get_or s 0 0
first_byte [] h = absurd (omega arith)
first_byte (x ∷ s) h = refl

pub plain_by : (s : Text) → 0 < length s → plain_names s ≡ opens_name (get_or s 0 0) && names_after (drop 0 s)
plain_by s h = plain_after s ∙ rw (first_byte s h) refl

after_at : (s : Text) (k : ℕ) → suc k < length s → names_after (drop k s) ≡ (not (eqb (get_or s k 0) slash) || opens_name (get_or s (suc k) 0)) && names_after (drop (suc k) s)
unfolding names_after
after_at s k h = rw (drop-cons s k 0 (omega arith), drop-cons s (suc k) 0 h)

after_end : (s : Text) (k : ℕ) → suc k ≡ length s → names_after (drop k s) ≡ not (eqb (get_or s k 0) slash)
unfolding names_after
after_end s k e = rw (drop-cons s k 0 (omega arith), drop_of_length-le s {i = suc k} (omega arith)) (by_test (eqb (get_or s k 0) slash) (λ t. rw t) (λ f. rw f))

module _ (s : Text) (i : ℕ) (l : 1 ≤ i) where
  pub after_next : i < length s → names_after (drop (i - 1) s) ≡ (not (eqb (get_or s (i - 1) 0) slash) || opens_name (get_or s i 0)) && names_after (drop (i + 1 - 1) s)
  after_next h =
      let n : i + 1 - 1 ≡ suc (i - 1) = omega arith in
      let m : i ≡ suc (i - 1) = omega arith in
      after_at s (i - 1) (omega arith)
      ∙ ap (λ (k : ℕ). (not (eqb (get_or s (i - 1) 0) slash) || opens_name (get_or s k 0)) && names_after (drop (suc (i - 1)) s)) (sym m)
      ∙ ap (λ (k : ℕ). (not (eqb (get_or s (i - 1) 0) slash) || opens_name (get_or s i 0)) && names_after (drop k s)) (sym n)

  pub after_last : i ≡ length s → names_after (drop (i - 1) s) ≡ not (eqb (get_or s (length s - 1) 0) slash)
  after_last e = after_end s (i - 1) (omega arith) ∙ ap (λ (k : ℕ). not (eqb (get_or s (k - 1) 0) slash)) e

-- One name after the other is all of it at once

plain_piece : (p : Text) → plain_name p ≡ true → Name ≡ piece_of p
unfolding plain_name
plain_piece [] h = let z : ◌≡◌ {A = ℕ} 0 1 = cc in absurd (omega arith)
plain_piece (x ∷ p) h = piece_name (x ∷ p) (omega arith) (eqb-false x dot (not-true (eqb x dot) h))

-- b with the first piece put behind it as it is, and then the others
abbrev glued : Text → List Text → Text
glued b [] = b
glued b (p ∷ ps) = walk_of (b ++ p) ps

walk_first : (b s : Text) → opens_name (get_or s 0 slash) ≡ true → walk_of b (split s) ≡ glued (b ++ joint b) (split s)
unfolding walk_of step_of step_by push_of
walk_first b s h =
    by_split s (λ p ps e.
    let n : Name ≡ piece_of p = plain_piece p (rw e at (first_plain s ∙ h)) in
    rw (e, ← n, append_assoc b (joint b) p))

glued_first : (x : ℕ) (b : Text) (q : List Text) → glued b (on_first x q) ≡ glued (b ++ (x ∷ [])) q
unfolding on_first walk_of
glued_first x b [] = refl
glued_first x b (p ∷ ps) = rw (append_assoc b (x ∷ []) p)

-- a byte that is no slash asks for one behind it
joint_behind : (b : Text) (x : ℕ) → eqb x slash ≡ false → joint (b ++ (x ∷ [])) ≡ slash ∷ []
joint_behind b x f =
    let l : length (b ++ (x ∷ [])) ≡ length b + 1 = length-append b (x ∷ []) in
    let m : length (b ++ (x ∷ [])) - 1 ≡ length b = omega arith in
    joint_some (b ++ (x ∷ [])) (omega arith) ∙ rw (m, get_or-append_seam b x [] 0, f)

-- a text with a name at its start does not start with a slash
no_slash_lem : (s : Text) → opens_name (get_or s 0 slash) ≡ true → starts slash s ≡ true → ⊥
unfolding starts
no_slash_lem [] o u = let z : ◌≡◌ {A = ℕ} 0 1 = cc in omega arith
no_slash_lem (y ∷ s) o u = let w : false ≡ true = rw u at o in let z : ◌≡◌ {A = ℕ} 0 1 = cc in omega arith

-- b ends with no slash, where one follows
glued_all : (s b : Text) → (starts slash s ≡ true → joint b ≡ slash ∷ []) → names_after s ≡ true → glued b (split s) ≡ b ++ s
unfolding split starts names_after walk_of
glued_all [] b j n = refl
glued_all (x ∷ s) b j n =
    by_test (eqb x slash)
    (λ t.
    let m : opens_name (get_or s 0 slash) && names_after s ≡ true = rw t at n in
    let o : opens_name (get_or s 0 slash) ≡ true = (and_parts (opens_name (get_or s 0 slash)) (names_after s) m).0 in
    let l : names_after s ≡ true = (and_parts (opens_name (get_or s 0 slash)) (names_after s) m).1 in
    rw (t, append-nil b, walk_first b s o, j t, eqb-true x slash t)
    (glued_all s (b ++ (slash ∷ [])) (λ u. absurd (no_slash_lem s o u)) l ∙ append_assoc b (slash ∷ []) s))
    (λ f.
    rw (f, glued_first x b (split s))
    (glued_all s (b ++ (x ∷ [])) (λ u. joint_behind b x f) (rw f at n) ∙ append_assoc b (x ∷ []) s))

-- pushed one by one, or the subpath with its slashes at once
pub walk_plain : (base sub : Text) → plain_names sub ≡ true → walk_of base (split sub) ≡ push_of base sub
unfolding push_of
walk_plain base sub h =
    let m = sym (plain_after sub) ∙ h in
    let o : opens_name (get_or sub 0 slash) ≡ true = (and_parts (opens_name (get_or sub 0 slash)) (names_after sub) m).0 in
    let n : names_after sub ≡ true = (and_parts (opens_name (get_or sub 0 slash)) (names_after sub) m).1 in
    walk_first base sub o ∙ glued_all sub (base ++ joint base) (λ u. absurd (no_slash_lem sub o u)) n ∙ append_assoc base (joint base) sub
