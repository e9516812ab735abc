-- Laws of a text's last piece and of its pieces up to the last component. Assumes nothing.
use mathlib.Core.Path.{◌≡◌, refl, sym, ap, ◌∙◌}
use Rattle.std.proofs.lemmas.Bool.{and_parts}
use mathlib.Core.List.{List, [], ◌∷◌, ◌++◌}
use mathlib.Core.Bool.{Bool, true, false, cond}
use Prim.Native.Nat.{ℕ, suc, ◌+◌, ◌-◌, ◌≤◌, ◌<◌}
use native.Mathlib.Omega.{arith}
use native.Mathlib.Numerals.{add-one}
use native.Mathlib.Nat.{add-zero, add-suc, suc-add}
use lib.ListN.{length, take, drop, get_or, length-append, length-take, length-drop, drop_of_length-le}
use lib.Seq.{take_all, split_at, take-append_seam, take-append-add, drop-cons, get_or-drop}
use lib.Dec.{eqb}
use borrow.Author.Tests.{eqb-true}
use Rattle.text.specs.Bytes.{Text, slash, dot}
use Rattle.text.specs.Text.{find_last_from, find_last, each_of}
use Rattle.std.specs.Prelude.{Option, Some, None}
use Rattle.components.specs.Components.{on_first, split, piece_of, is_skip}
use Rattle.ends.specs.Ends.{joined, ending, trim_end, all_but_last, last_of, last_piece}
use Rattle.text.proofs.Picks.{by_test}
use Rattle.components.proofs.Pieces.{by_split}
use Rattle.components.proofs.Components.{kept}

-- The last place of a byte: after it the byte does not stand

unfoldable pub lacks : ℕ → Text → Bool
lacks b [] = true
lacks b (x ∷ s) = cond (eqb x b) false (lacks b s)

data LastIs (b : ℕ) (s : Text) (f : Option ℕ) (j : ℕ) (r : Option ℕ) : Type 0 where
  keeps : r ≡ f → lacks b s ≡ true → LastIs b s f j r
  finds : (i : ℕ) → r ≡ Some (j + i) → i < length s → get_or s i 0 ≡ b → lacks b (drop (suc i) s) ≡ true → LastIs b s f j r

last_step : (b x : ℕ) (s : Text) (f : Option ℕ) (j : ℕ) (r : Option ℕ) (t : Bool) → eqb x b ≡ t → LastIs b s (cond t (Some j) f) (suc j) r → LastIs b (x ∷ s) f j r
unfolding lacks
last_step b x s f j r true e (keeps p l) = finds 0 (rw add-zero p) (omega arith) (eqb-true x b e) l
last_step b x s f j r false e (keeps p l) = keeps p (rw e l)
last_step b x s f j r t e (finds i p h g l) = finds (suc i) (rw (add-suc, ← suc-add) p) (omega arith) g l

last_is : (b : ℕ) (s : Text) (f : Option ℕ) (j : ℕ) → LastIs b s f j (find_last_from b f j s)
unfolding find_last_from lacks
last_is b [] f j = keeps refl refl
last_is b (x ∷ s) f j = last_step b x s f j _ (eqb x b) refl (last_is b s (cond (eqb x b) (Some j) f) (suc j))

module _ (b : ℕ) (s : Text) where
  pub last_lacks : None ≡ find_last b s → lacks b s ≡ true
  last_lacks e = go (last_is b s None 0)
    where
      go : LastIs b s None 0 (find_last b s) → lacks b s ≡ true
      go (keeps p l) = l
      go (finds i p h g l) = let z : ◌≡◌ {A = ℕ} 0 1 = cc in absurd (omega arith)

  module _ (i : ℕ) (e : Some i ≡ find_last b s) where
    pub last_at : (i < length s) × ((get_or s i 0 ≡ b) × (lacks b (drop (suc i) s) ≡ true))
    last_at = go (last_is b s None 0)
      where
        go : LastIs b s None 0 (find_last b s) → (i < length s) × ((get_or s i 0 ≡ b) × (lacks b (drop (suc i) s) ≡ true))
        go (keeps p l) = let z : ◌≡◌ {A = ℕ} 0 1 = cc in absurd (omega arith)
        go (finds k p h g l) = let q : i ≡ 0 + k = cc in let z : i ≡ k = omega arith in rw z (h, (g, l))

    pub last_within : i < length s
    last_within = last_at.0

-- Pieces of a text put together

-- a slash ends a piece
pub split_slash : (x y : Text) → split (x ++ slash ∷ y) ≡ split x ++ split y
unfolding split on_first
split_slash [] y = refl
split_slash (a ∷ x) y =
    by_test (eqb a slash)
    (λ t. rw (t, split_slash x y))
    (λ f. rw (f, split_slash x y) (by_split x (λ p ps e. rw e)))

pub split_lacks : (s : Text) → lacks slash s ≡ true → split s ≡ s ∷ []
unfolding split on_first lacks
split_lacks [] h = refl
split_lacks (x ∷ s) h =
    by_test (eqb x slash)
    (λ t. let z : false ≡ true = rw t at h in let w : ◌≡◌ {A = ℕ} 0 1 = cc in absurd (omega arith))
    (λ f. rw (f, split_lacks s (rw f at h)))

pub joined_split : (s : Text) → joined (split s) ≡ s
unfolding split on_first joined
joined_split [] = refl
joined_split (x ∷ s) =
    by_test (eqb x slash)
    (λ t. rw t (by_split s (λ p ps e. rw e (ap (λ (l : Text). slash ∷ l) (ap joined (sym e) ∙ joined_split s) ∙ ap (λ (y : ℕ). y ∷ s) (sym (eqb-true x slash t))))))
    (λ f. rw f (by_split s (λ p ps e. rw e (on_joined p ps ∙ ap (λ (l : Text). x ∷ l) (ap joined (sym e) ∙ joined_split s)))))
  where
    on_joined : (p : Text) (ps : List Text) → joined ((x ∷ p) ∷ ps) ≡ x ∷ joined (p ∷ ps)
    on_joined p [] = refl
    on_joined p (q ∷ ps) = refl

-- each piece lacks a slash, and such pieces are those of the text that they make

pub split_bare : (s : Text) → each_of (lacks slash) (split s) ≡ true
unfolding split on_first each_of lacks
split_bare [] = refl
split_bare (x ∷ s) =
    by_test (eqb x slash)
    (λ t. rw t (split_bare s))
    (λ f. rw f (by_split s (λ p ps e. rw e (rw f (rw e at (split_bare s))))))

pub split_joined : (p : Text) (ps : List Text) → each_of (lacks slash) (p ∷ ps) ≡ true → split (joined (p ∷ ps)) ≡ p ∷ ps
unfolding each_of joined
split_joined p [] h = split_lacks p (and_parts (lacks slash p) true h).0
split_joined p (q ∷ ps) h =
    rw (split_slash p (joined (q ∷ ps)), split_lacks p (and_parts (lacks slash p) _ h).0, split_joined q ps (and_parts (lacks slash p) _ h).1)

-- The last piece

last_snoc : (x : Text) (ps : List Text) (p : Text) → last_of x (ps ++ (p ∷ [])) ≡ p
unfolding last_of
last_snoc x [] p = refl
last_snoc x (q ∷ ps) p = last_snoc q ps p

pub data Cut (s : Text) (f : Option ℕ) : Type 0 where
  whole : f ≡ None → split s ≡ s ∷ [] → last_piece s ≡ s → Cut s f
  parted : (i : ℕ) → f ≡ Some i → i < length s → split s ≡ split (take i s) ++ (drop (suc i) s ∷ []) → last_piece s ≡ drop (suc i) s → Cut s f

pub cut : (s : Text) (f : Option ℕ) → f ≡ find_last slash s → Cut s f
unfolding last_piece last_of
cut s None e = let p = split_lacks s (last_lacks slash s e) in whole refl p (rw p)
cut s (Some i) e =
    let w : i < length s = last_within slash s i e in
    let a = last_at slash s i e in
    let z : s ≡ take i s ++ slash ∷ drop (suc i) s = split_at s i 0 w ∙ rw a.1.0 in
    let p : split s ≡ split (take i s) ++ (drop (suc i) s ∷ []) =
    ap split z ∙ split_slash (take i s) (drop (suc i) s) ∙ ap (λ (l : List Text). split (take i s) ++ l) (split_lacks (drop (suc i) s) a.1.1) in
    parted i refl w p (rw p (last_snoc [] (split (take i s)) (drop (suc i) s)))

-- where the last piece begins
module _ (s : Text) (f : Option ℕ) (e : f ≡ find_last slash s) where
  pub start_none : f ≡ None → 0 ≡ length s - length (last_piece s)
  start_none n = go (cut s f e)
    where
      go : Cut s f → 0 ≡ length s - length (last_piece s)
      go (whole _ p l) = rw l (omega arith)
      go (parted i g w p l) = let z : ◌≡◌ {A = ℕ} 0 1 = cc in absurd (omega arith)

  module _ (i : ℕ) (n : f ≡ Some i) where
    pub start_some : i + 1 ≡ length s - length (last_piece s)
    start_some = go (cut s f e)
      where
        go : Cut s f → i + 1 ≡ length s - length (last_piece s)
        go (whole g p l) = let z : ◌≡◌ {A = ℕ} 0 1 = cc in absurd (omega arith)
        go (parted k g w p l) = let z : k ≡ i = cc in rw l (omega (arith, length-drop (suc k) s))

    pub start_within : i < length s
    start_within = last_within slash s i (sym n ∙ e)

-- the text at the place k where its last piece begins
module _ (s : Text) (k : ℕ) (h : k ≡ length s - length (last_piece s)) where
  pub start_drop : drop k s ≡ last_piece s
  start_drop = go (cut s _ refl)
    where
      go : Cut s (find_last slash s) → drop k s ≡ last_piece s
      go (whole g p l) = let z : k ≡ 0 = h ∙ rw l (omega arith) in rw (z, l)
      go (parted i g w p l) = let z : k ≡ suc i = h ∙ rw l (omega (arith, length-drop (suc i) s)) in rw (z, l)

-- The pieces up to the last component

trim_skip : (ps : List Text) (p : Text) → is_skip (piece_of p) ≡ true → trim_end (ps ++ (p ∷ [])) ≡ trim_end ps
unfolding trim_end ending
trim_skip [] p h = rw h
trim_skip (q ∷ ps) p h = rw (trim_skip ps p h)

trim_keep : (ps : List Text) (p : Text) → is_skip (piece_of p) ≡ false → trim_end (ps ++ (p ∷ [])) ≡ ps ++ (p ∷ [])
unfolding trim_end ending
trim_keep [] p h = rw h
trim_keep (q ∷ ps) p h = rw (trim_keep ps p h) (grows ps)
  where
    grows : (ps : List Text) → ending q (ps ++ (p ∷ [])) ≡ q ∷ ps ++ (p ∷ [])
    grows [] = refl
    grows (r ∷ ps) = refl

pub trim_each : (ok : Text → Bool) (ps : List Text) → each_of ok ps ≡ true → each_of ok (trim_end ps) ≡ true
unfolding trim_end ending each_of
trim_each ok [] h = refl
trim_each ok (p ∷ ps) h = go (trim_end ps) (trim_each ok ps (and_parts (ok p) _ h).1) (is_skip (piece_of p)) refl
  where
    one : ok p ≡ true
    one = (and_parts (ok p) _ h).0

    go : (l : List Text) → each_of ok l ≡ true → (t : Bool) → is_skip (piece_of p) ≡ t → each_of ok (ending p l) ≡ true
    go [] k true e = rw e
    go [] k false e = rw (e, one)
    go (q ∷ l) k t e = rw one k

-- they make the front of the text that all of them make
pub joined_trim : (ps : List Text) → take (length (joined (trim_end ps))) (joined ps) ≡ joined (trim_end ps)
unfolding trim_end ending joined
joined_trim [] = refl
joined_trim (p ∷ []) = by_test (is_skip (piece_of p)) (λ t. rw t) (λ f. rw f (take_all (length p) p (omega arith)))
joined_trim (p ∷ r ∷ ps) = go (trim_end (r ∷ ps)) (joined_trim (r ∷ ps))
  where
    go : (l : List Text) → take (length (joined l)) (joined (r ∷ ps)) ≡ joined l → take (length (joined (ending p l))) (joined (p ∷ r ∷ ps)) ≡ joined (ending p l)
    go [] ih = by_test (is_skip (piece_of p)) (λ t. rw t) (λ f. rw f (take-append_seam p (slash ∷ joined (r ∷ ps))))
    go (q ∷ l) ih =
        rw (length-append p (slash ∷ joined (q ∷ l))) (take-append-add p (slash ∷ joined (r ∷ ps)) (suc (length (joined (q ∷ l)))) ∙ rw ih)

pub trimmed_front : (s : Text) → take (length (joined (trim_end (split s)))) s ≡ joined (trim_end (split s))
trimmed_front s = rw joined_split at (joined_trim (split s))

pub trim_le : (ps : List Text) → length (joined (trim_end ps)) ≤ length (joined ps)
trim_le ps = omega (arith, ap length (joined_trim ps), length-take (length (joined (trim_end ps))) (joined ps))

-- the text up to the last component
abbrev pub ends : Text → Text
ends s = joined (trim_end (split s))

pub ends_le : (s : Text) → length (ends s) ≤ length s
ends_le s = omega (arith, ap length (trimmed_front s), length-take (length (ends s)) s)

pub ends_split : (s : Text) → 0 < length (ends s) → split (ends s) ≡ trim_end (split s)
unfolding joined
ends_split s h = go (trim_end (split s)) (trim_each (lacks slash) (split s) (split_bare s)) h
  where
    go : (ts : List Text) → each_of (lacks slash) ts ≡ true → 0 < length (joined ts) → split (joined ts) ≡ ts
    go [] w h = absurd (omega arith)
    go (t ∷ ts) w h = split_joined t ts w

-- it is empty just where there is no component
some_piece : (p : Text) → is_skip (piece_of p) ≡ false → 0 < length p
unfolding piece_of
some_piece [] f = let w : ◌≡◌ {A = ℕ} 0 1 = cc in absurd (omega arith)
some_piece (x ∷ p) f = omega arith

ending_none : (p : Text) (ts : List Text) → length (joined (ending p ts)) ≡ 0 → ending p ts ≡ []
unfolding ending joined
ending_none p [] h = by_test (is_skip (piece_of p)) (λ t. rw t) (λ f. let n : length p ≡ 0 = rw f at h in absurd (omega (arith, some_piece p f)))
ending_none p (q ∷ ts) h = absurd (omega (arith, length-append p (slash ∷ joined (q ∷ ts))))

pub trim_none : (ps : List Text) → length (joined (trim_end ps)) ≡ 0 → trim_end ps ≡ []
unfolding trim_end
trim_none [] h = refl
trim_none (p ∷ ps) h = ending_none p (trim_end ps) h

-- pieces without their last
pub but_last : (p : Text) (ps : List Text) → all_but_last (ps ++ (p ∷ [])) ≡ ps
unfolding all_but_last
but_last p [] = refl
but_last p (q ∷ []) = refl
but_last p (q ∷ r ∷ ps) = ap (λ (l : List Text). q ∷ l) (but_last p (r ∷ ps))

pub last_one : (s : Text) → None ≡ find_last slash s → split s ≡ s ∷ []
last_one s e = split_lacks s (last_lacks slash s e)

pub last_more : (s : Text) (i : ℕ) → Some i ≡ find_last slash s → split s ≡ split (take i s) ++ (drop (i + 1) s ∷ [])
last_more s i e = go (cut s (Some i) e)
  where
    go : Cut s (Some i) → split s ≡ split (take i s) ++ (drop (i + 1) s ∷ [])
    go (whole g p l) = let z : ◌≡◌ {A = ℕ} 0 1 = cc in absurd (omega arith)
    go (parted k g w p l) = let z : k ≡ i = cc in rw (← z, add-one k) p

-- What is dropped at the end of a text t: a slash, or a slash and a dot

trim_slash : (x y : Text) → split y ≡ y ∷ [] → is_skip (piece_of y) ≡ true → trim_end (split (x ++ slash ∷ y)) ≡ trim_end (split x)
trim_slash x y e h = rw (split_slash x y, e) (trim_skip (split x) y h)

module _ (t : Text) where
  pub less_slash : 0 < length t → get_or t (length t - 1) 0 ≡ slash → trim_end (split (take (length t - 1) t)) ≡ trim_end (split t)
  unfolding split piece_of
  less_slash h e =
      let n = length t - 1 in
      let d : drop (suc n) t ≡ [] = drop_of_length-le t {i = suc n} (omega arith) in
      let z : t ≡ take n t ++ slash ∷ [] = split_at t n 0 (omega arith) ∙ rw (e, d) in
      sym (ap (λ (x : Text). trim_end (split x)) z ∙ trim_slash (take n t) [] refl refl)

  pub less_dot : 1 < length t → get_or t (length t - 1) 0 ≡ dot → get_or t (length t - 2) 0 ≡ slash → trim_end (split (take (length t - 2) t)) ≡ trim_end (split t)
  unfolding split piece_of on_first
  less_dot h e f =
      let n = length t - 2 in
      let y : suc n ≡ length t - 1 = omega arith in
      let d : drop (suc (suc n)) t ≡ [] = drop_of_length-le t {i = suc (suc n)} (omega arith) in
      let g : get_or t (suc n) 0 ≡ dot = rw y e in
      let l : drop (suc n) t ≡ dot ∷ [] = drop-cons t (suc n) 0 (omega arith) ∙ rw (g, d) in
      let z : t ≡ take n t ++ slash ∷ dot ∷ [] = split_at t n 0 (omega arith) ∙ rw (f, l) in
      sym (ap (λ (x : Text). trim_end (split x)) z ∙ trim_slash (take n t) (dot ∷ []) refl refl)

  pub only_dot : length t ≡ 1 → get_or t 0 0 ≡ dot → joined (trim_end (split t)) ≡ []
  unfolding split piece_of on_first trim_end ending joined
  only_dot l e = one t l e
    where
      one : (t : Text) → length t ≡ 1 → get_or t 0 0 ≡ dot → joined (trim_end (split t)) ≡ []
      one [] l e = absurd (omega arith)
      one (x ∷ []) l e = rw e
      one (x ∷ y ∷ t) l e = absurd (omega arith)

  -- all of it is kept, if its last piece is neither empty nor `.`
  keeps_all : is_skip (piece_of (last_piece t)) ≡ false → joined (trim_end (split t)) ≡ t
  keeps_all f = ap joined (go (cut t _ refl)) ∙ joined_split t
    where
      go : Cut t (find_last slash t) → trim_end (split t) ≡ split t
      go (whole g p l) = rw (p, ← l) (trim_keep [] (last_piece t) f)
      go (parted i g w p l) = rw (p, ← l) (trim_keep (split (take i t)) (last_piece t) f)

  ends_kept : 0 < length t → (get_or t (length t - 1) 0 ≡ slash → ⊥) → (get_or t (length t - 1) 0 ≡ dot → (1 < length t) × (get_or t (length t - 2) 0 ≡ slash → ⊥)) → joined (trim_end (split t)) ≡ t
  ends_kept h n m = keeps_all (go (cut t _ refl))
    where
      go : Cut t (find_last slash t) → is_skip (piece_of (last_piece t)) ≡ false
      go (whole g p l) = rw l (kept t (λ z. omega arith) (λ z e. let y : length t - 1 ≡ 0 = omega arith in let k = m (rw y e) in omega (arith, k.0)))
      go (parted i g w p l) =
          let at : get_or t i 0 ≡ slash = (last_at slash t i (sym g)).1.0 in
          let long = length-drop (suc i) t in
          rw l
          (kept (drop (suc i) t)
          (λ z. let y : length t - 1 ≡ i = omega (arith, long) in n (rw y at))
          (λ z e.
          let y : length t - 1 ≡ suc i + 0 = omega (arith, long) in
          let x : length t - 2 ≡ i = omega (arith, long) in
          let k = m (rw y (sym (get_or-drop (suc i) t 0 0) ∙ e)) in
          k.1 (rw x at)))

  pub kept_none : length t ≡ 0 → joined (trim_end (split t)) ≡ t
  unfolding split piece_of trim_end ending joined
  kept_none h = none t h
    where
      none : (t : Text) → length t ≡ 0 → joined (trim_end (split t)) ≡ t
      none [] h = refl
      none (x ∷ t) h = absurd (omega arith)

  pub kept_plain : 0 < length t → (get_or t (length t - 1) 0 ≡ slash → ⊥) → (get_or t (length t - 1) 0 ≡ dot → ⊥) → joined (trim_end (split t)) ≡ t
  kept_plain h n m = ends_kept h n (λ e. absurd (m e))

  pub kept_dots : 1 < length t → get_or t (length t - 1) 0 ≡ dot → (get_or t (length t - 2) 0 ≡ slash → ⊥) → joined (trim_end (split t)) ≡ t
  kept_dots h e n = ends_kept (omega arith) (λ f. let z : slash ≡ dot = sym f ∙ e in omega arith) (λ f. (h, n))

-- what is left of it, from its length and its last bytes
pub ruleset tails = (less_slash, less_dot, only_dot, kept_none, kept_plain, kept_dots)
