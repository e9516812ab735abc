-- Laws of what is left of a path after a directory. Assumes nothing.
use mathlib.Core.Path.{◌≡◌, refl, sym, ap, ◌∙◌}
use mathlib.Core.List.{List, [], ◌∷◌}
use mathlib.Core.Bool.{Bool, true, false, cond}
use Prim.Native.Nat.{ℕ, ◌+◌, ◌<◌}
use native.Mathlib.Omega.{arith}
use lib.ListN.{length, take, drop}
use lib.Seq.{take-add}
use lib.Dec.{eqb}
use borrow.Author.Tests.{eq-eqb, ne_eqb}
use Rattle.std.specs.Prelude as std
use Rattle.std.specs.Prelude.{Option, Some, None, option_map, option_copied}
use denote.Ref.{Bor}
use Rattle.text.specs.Bytes.{Text, dot}
use Rattle.text.specs.Text.{same_text}
use Rattle.components.specs.Components.{on_first, split, piece_of, is_skip, starts, leads_dot, names, heads, components, trim_start, lead_of, rest_of}
use Rattle.component_walk.specs.Walk.{pieces, Takes}
use Rattle.path.specs.Path.{same_list, left_of, is_some, same_path, under, left_pieces, strip_prefix}
use Rattle.path.specs.Left.{left_after}
use Rattle.ends.specs.Ends.{joined, ending, trim_end, trimmed}
use Rattle.text.proofs.Picks.{by_test}
use Rattle.ends.proofs.Ends.{trimmed_front}
use Rattle.components.proofs.Components.{LeadIs, empty, rooted, dot_only, dot_slash, plain, lead_is, lead_front, names_rest}
use Rattle.components.proofs.Pieces.{by_split}
use Rattle.path.proofs.Under.{same_by, under_by}

-- What is left of a text, from the next component on, after the components cs
abbrev pub left : List Text → List Text → Option (List Text)
left ps cs = option_map trim_start (left_pieces ps cs)

left_skip : (p : Text) (ps cs : List Text) → is_skip (piece_of p) ≡ true → left (p ∷ ps) cs ≡ left ps cs
unfolding left_pieces trim_start
left_skip p ps [] t = rw t
left_skip p [] (c ∷ cs) t = rw t
left_skip p (q ∷ ps) (c ∷ cs) t = rw t

left_none : (ps : List Text) (c : Text) (cs : List Text) → trim_start ps ≡ [] → left_pieces ps (c ∷ cs) ≡ None
unfolding trim_start left_pieces
left_none [] c cs e = refl
left_none (p ∷ ps) c cs e =
    by_test (is_skip (piece_of p))
    (λ t. rw t (left_none ps c cs (rw t at e)))
    (λ f. let z = ap length (rw f at e) in absurd (omega arith))

left_next : (ps : List Text) (x : Text) (qs : List Text) (c : Text) (cs : List Text) → trim_start ps ≡ x ∷ qs → left_pieces ps (c ∷ cs) ≡ cond (same_text x c) (left_pieces qs cs) None
unfolding trim_start left_pieces
left_next [] x qs c cs e = let z = ap length e in absurd (omega arith)
left_next (p ∷ ps) x qs c cs e =
    by_test (is_skip (piece_of p))
    (λ t. rw t (left_next ps x qs c cs (rw t at e)))
    (λ f.
    let d : p ∷ ps ≡ x ∷ qs = rw f at e in
    let y : p ≡ x = cc in
    let z : ps ≡ qs = cc in
    rw (f, y, z))

-- A walk over the components of a directory: s is what is left of the path, cs what is left of the directory
module _ (s : Text) (cs : List Text) where
  pub left_done : cs ≡ [] → (u : Text) → pieces u ≡ trim_start (split s) → Some (pieces u) ≡ left (split s) cs
  unfolding left_pieces
  left_done n u e = rw (n, e)

  module _ (c : Text) (ds : List Text) (more : cs ≡ c ∷ ds) where
    pub left_short : trim_start (split s) ≡ [] → None ≡ left (split s) cs
    left_short e = rw (more, left_none (split s) c ds e)

    -- x is the next component of the path, and t what stands behind it
    module _ (x t : Text) (k : Takes s (Some x) t) where
      left_turn : left (split s) cs ≡ cond (same_text x c) (left (split t) ds) None
      unfolding piece_of
      left_turn =
          let e : left (split t) ds ≡ left k.0 ds = ap (λ (l : List Text). left l ds) k.2 ∙ left_skip [] k.0 ds refl in
          rw (more, left_next (split s) x k.0 c ds k.1, e) (by_test (same_text x c) (λ y. rw y) (λ f. rw f))

      pub left_other : same_text x c ≡ false → None ≡ left (split s) cs
      left_other f = rw (left_turn, f)

      pub left_on : same_text x c ≡ true → left (split t) ds ≡ left (split s) cs
      left_on y = rw (left_turn, y)

-- the lead has nothing that is left
left_rest : (s : Text) (cs : List Text) → left (split (rest_of s)) cs ≡ left (split s) cs
unfolding lead_of starts leads_dot split on_first piece_of
left_rest s cs = go (lead_is s)
  where
    go : {s : Text} → LeadIs s → left (split (rest_of s)) cs ≡ left (split s) cs
    go empty = refl
    go (rooted t) = sym (left_skip [] (split t) cs refl)
    go dot_only = left_skip [] [] cs refl ∙ sym (left_skip (dot ∷ []) [] cs refl)
    go (dot_slash t) = left_skip [] (split t) cs refl ∙ sym (left_skip (dot ∷ []) (split t) cs refl)
    go (plain s a b p ps e k) = rw (a, b)

-- r says whether the leads are the same
module _ (p d : Text) (r : Bool) (e : r ≡ same_text (lead_of p) (lead_of d)) where
  pub after_not : r ≡ false → None ≡ left_after p d
  unfolding left_after
  after_not f = rw (← e, f)

  pub after_same : r ≡ true → left (split p) (names (split d)) ≡ left_after p d
  unfolding left_after
  after_same t = rw (← e, t, names_rest d) (sym (left_rest p (names (split d))))

-- The same in the words of the definitions on components

left_names : (ps cs : List Text) → left_of (names ps) cs ≡ option_map names (left_pieces ps cs)
unfolding left_of left_pieces names
left_names ps [] = refl
left_names [] (c ∷ cs) = refl
left_names (p ∷ ps) (c ∷ cs) =
    by_test (is_skip (piece_of p))
    (λ t. rw t (left_names ps (c ∷ cs)))
    (λ f. rw f (by_test (same_text p c) (λ t. rw t (left_names ps cs)) (λ g. rw g)))

pub some_map : {A B : Type 0} (f : A → B) (o : Option A) → is_some (option_map f o) ≡ is_some o
unfolding is_some
some_map f None = refl
some_map f (Some a) = refl

pub some_copied : {A : Type 0} (o : Option (Bor A)) → std.is_some o ≡ is_some (option_copied o)
unfolding is_some
some_copied None = refl
some_copied (Some a) = refl

map_map : {A B C : Type 0} (g : B → C) (f : A → B) (o : Option A) → option_map g (option_map f o) ≡ option_map (λ x. g (f x)) o
map_map g f None = refl
map_map g f (Some a) = refl

-- nothing is left at all
unfoldable pub none_left : Option (List Text) → Bool
none_left None = false
none_left (Some []) = true
none_left (Some (p ∷ ps)) = false

same_left : (l m : List Text) → same_list l m ≡ none_left (left_of l m)
unfolding same_list left_of none_left
same_left [] [] = refl
same_left [] (b ∷ m) = refl
same_left (a ∷ l) [] = refl
same_left (a ∷ l) (b ∷ m) = by_test (same_text a b) (λ t. rw t (same_left l m)) (λ f. rw f)

none_names : (o : Option (List Text)) → none_left (option_map names o) ≡ none_left (option_map trim_start o)
unfolding none_left names trim_start
none_names None = refl
none_names (Some ps) = go ps
  where
    go : (ps : List Text) → none_left (Some (names ps)) ≡ none_left (Some (trim_start ps))
    go [] = refl
    go (p ∷ ps) = by_test (is_skip (piece_of p)) (λ t. rw t (go ps)) (λ f. rw f)

module _ (p d : Text) where
  -- what is left of the pieces, before it is begun at a component
  rough : Option (List Text)
  rough = cond (same_text (lead_of p) (lead_of d)) (left_pieces (split (rest_of p)) (names (split (rest_of d)))) None

  after_rough : left_after p d ≡ option_map trim_start rough
  unfolding left_after rough
  after_rough = by_test (same_text (lead_of p) (lead_of d)) (λ t. rw t) (λ f. rw f)

  names_rough : cond (same_text (lead_of p) (lead_of d)) (left_of (names (split p)) (names (split d))) None ≡ option_map names rough
  unfolding rough
  names_rough = rw (← names_rest p, ← names_rest d, left_names) (by_test (same_text (lead_of p) (lead_of d)) (λ t. rw t) (λ f. rw f))

  same_after : same_path p d ≡ none_left (left_after p d)
  unfolding none_left
  same_after =
      same_by p d ∙ by_test (same_text (lead_of p) (lead_of d)) (λ t. rw t (same_left (names (split p)) (names (split d)))) (λ f. rw f)
      ∙ ap none_left names_rough ∙ none_names rough ∙ ap none_left (sym after_rough)

  under_after : 0 < length d → under p d ≡ is_some (left_after p d)
  unfolding is_some
  under_after h =
      under_by p d h ∙ by_test (same_text (lead_of p) (lead_of d)) (λ t. rw t) (λ f. rw f)
      ∙ ap is_some names_rough ∙ some_map names rough ∙ sym (ap is_some after_rough ∙ some_map trim_start rough)

pub under_none : (p d : Text) → length d ≡ 0 → true ≡ under p d
unfolding under components heads starts leads_dot names split piece_of left_of is_some
under_none p [] h = refl
under_none p (x ∷ d) h = absurd (omega arith)

-- The texts of what is left

trims_meet : (ps : List Text) → trim_start (trim_end ps) ≡ trim_end (trim_start ps)
unfolding trim_start trim_end ending
trims_meet [] = refl
trims_meet (p ∷ ps) = by_test (is_skip (piece_of p)) (λ t. rw t (skips (trim_end ps) t ∙ trims_meet ps)) (λ f. rw f (keeps (trim_end ps) f))
  where
    skips : (l : List Text) → is_skip (piece_of p) ≡ true → trim_start (ending p l) ≡ trim_start l
    skips [] t = rw t
    skips (q ∷ l) t = rw t

    keeps : (l : List Text) → is_skip (piece_of p) ≡ false → trim_start (ending p l) ≡ ending p l
    keeps [] f = rw f (rw f)
    keeps (q ∷ l) f = rw f

strip_after : (p d : Text) → 0 < length d → strip_prefix p d ≡ option_map (λ ps. joined (trim_end ps)) (left_after p d)
unfolding strip_prefix rough
strip_after p [] h = absurd (omega arith)
strip_after p (x ∷ d) h =
    by_test (same_text (lead_of p) (lead_of (x ∷ d))) (λ t. rw t (meet (left_pieces (split (rest_of p)) (names (split (rest_of (x ∷ d))))))) (λ f. rw f refl)
    ∙ sym (map_map (λ ps. joined (trim_end ps)) trim_start (rough p (x ∷ d)))
    ∙ ap (option_map (λ ps. joined (trim_end ps))) (sym (after_rough p (x ∷ d)))
  where
    meet : (o : Option (List Text)) → option_map (λ ps. joined (trim_start (trim_end ps))) o ≡ option_map (λ ps. joined (trim_end (trim_start ps))) o
    meet None = refl
    meet (Some ps) = ap (λ (l : List Text). Some (joined l)) (trims_meet ps)

-- A path has something left exactly where it lies under the directory
pub strip_under : (p d : Text) → is_some (strip_prefix p d) ≡ under p d
unfolding strip_prefix is_some
strip_under p [] = under_none p [] refl
strip_under p (x ∷ d) =
    ap is_some (strip_after p (x ∷ d) (omega arith))
    ∙ some_map (λ (ps : List Text). joined (trim_end ps)) (left_after p (x ∷ d))
    ∙ sym (under_after p (x ∷ d) (omega arith))

none_pieces : (u : Text) → none_left (Some (pieces u)) ≡ eqb (length u) 0
unfolding pieces none_left
none_pieces [] = refl
none_pieces (x ∷ u) = by_split (x ∷ u) (λ p ps e. rw e (sym (ne_eqb (length (x ∷ u)) 0 (λ z. omega arith))))

end_pieces : (u : Text) → trim_end (pieces u) ≡ trim_end (split u)
unfolding pieces split trim_end ending piece_of
end_pieces [] = refl
end_pieces (x ∷ u) = refl

-- q is what the code finds of p after d
module _ (p d : Text) (q : Option Text) (h : option_map pieces q ≡ left_after p d) where
  pub same_nothing : q ≡ None → false ≡ same_path p d
  unfolding none_left
  same_nothing n = rw (same_after p d, ← h, n)

  module _ (u : Text) (n : q ≡ Some u) where
    same_left_text : eqb (length u) 0 ≡ same_path p d
    same_left_text = sym (rw (same_after p d, ← h, n) (none_pieces u))

    pub same_ended : length u ≡ 0 → true ≡ same_path p d
    same_ended z = sym (eq-eqb (length u) 0 z) ∙ same_left_text

    pub same_more : 0 < length u → false ≡ same_path p d
    same_more z = sym (ne_eqb (length u) 0 (λ e. omega arith)) ∙ same_left_text

  module _ (more : length d ≡ 0 → ⊥) where
    pub under_found : is_some q ≡ under p d
    under_found = sym (under_after p d (omega arith) ∙ ap is_some (sym h) ∙ some_map pieces q)

    strip_text : strip_prefix p d ≡ option_map (λ u. joined (trim_end (split u))) q
    strip_text = strip_after p d (omega arith) ∙ ap (option_map (λ ps. joined (trim_end ps))) (sym h) ∙ go q
      where
        go : (q : Option Text) → option_map (λ ps. joined (trim_end ps)) (option_map pieces q) ≡ option_map (λ u. joined (trim_end (split u))) q
        go None = refl
        go (Some u) = ap (λ ps. Some (joined ps)) (end_pieces u)

    pub strip_nothing : q ≡ None → None ≡ strip_prefix p d
    strip_nothing n = rw (strip_text, n)

    pub strip_found : (u : Text) → q ≡ Some u → (t : Text) → t ≡ joined (trim_end (split u)) → Some t ≡ strip_prefix p d
    strip_found u n t e = rw (strip_text, n, e)

-- the whole path is left after the empty one
pub strip_all : (p d : Text) → length d ≡ 0 → (n : ℕ) → n ≡ length (lead_of p) → (e : ℕ) → e ≡ n + length (joined (trim_end (split (drop n p)))) → Some (take e p) ≡ strip_prefix p d
unfolding strip_prefix trimmed
strip_all p [] h n i e j =
    rw (j, take-add n (length (joined (trim_end (split (drop n p))))) p, trimmed_front (drop n p), i, lead_front p)
strip_all p (x ∷ d) h n i e j = absurd (omega arith)
