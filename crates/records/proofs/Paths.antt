-- The records by their paths: a turn of the loops over the table, and each way out. Assumes nothing.
use mathlib.Core.Path.{◌≡◌, refl, sym, ap, ap₂, ◌∙◌}
use mathlib.Core.List.{List, [], ◌∷◌, ◌++◌, map, append_assoc, append-nil}
use mathlib.Core.Bool.{Bool, true, false, ◌&&◌, cond, and-false, and-true}
use Rattle.std.specs.Prelude.{Option, Some, None, option_map}
use Prim.Native.Nat.{ℕ, zero, suc, ◌+◌, ◌-◌, ◌≤◌, ◌<◌}
use native.Mathlib.Omega.{arith}
use native.Mathlib.Numerals.{add-one}
use lib.ListN.{length, get_or, take, drop, length-append, length-map, length-take, drop_of_length-le, get_or-append}
use Rattle.std.proofs.lemmas.List.{get_or-map}
use lib.Seq.{drop-cons, get_or-take, get_or-drop, length-take-le}
use lib.Dec.{eqb, leb}
use borrow.Author.Tests.{eq-eqb, ne_eqb, eqb-true, eqb-false, leb-true, leb-false}
use Rattle.text.specs.Bytes.{Text, slash}
use Rattle.names.specs.Names.{tsconfig_json, json}
use Rattle.text.specs.Text.{prefix_of, same_text, some_of}
use Rattle.text.proofs.Scans.{same_length, prefix_differs, prefix_short}
use Rattle.components.specs.Components.{starts}
use Rattle.path.specs.Path.{is_some}
use Rattle.join.specs.Join.{joint, push_of, slash_if}
use Rattle.text.proofs.Picks.{by_test}
use Rattle.book.specs.Record.{record_path_of}
use Rattle.book.specs.Index.{index_at, no_row, path_in, AcceptedAs}
use Rattle.book.specs.declared.IndexRow.{IndexRow}
use Rattle.book.specs.Find.{find, is_dir, config_path, locate}
use Rattle.records.specs.Paths.{path_table}
use Rattle.records.specs.Looks.{Unlike, Passed}

-- Comparing with p and then a tail

-- texts of one length are the same where one is a prefix of the other
same_whole : (w q : Text) → length w ≡ length q → same_text w q ≡ prefix_of w q
unfolding same_text prefix_of
same_whole [] [] h = refl
same_whole [] (y ∷ q) h = absurd (omega (arith, h))
same_whole (x ∷ w) [] h = absurd (omega (arith, h))
same_whole (x ∷ w) (y ∷ q) h = ap₂ (λ (a b : Bool). a && b) (flip x y) (same_whole w q (omega (arith, h)))
  where
    flip : (x y : ℕ) → eqb x y ≡ eqb y x
    flip x y = by_test (eqb x y) (λ t. let e : x ≡ y = eqb-true x y t in t ∙ sym (eq-eqb y x (sym e))) (λ f. f ∙ sym (ne_eqb y x (λ e. eqb-false x y f (sym e))))

-- a text that does not begin with w is another
same_other : (w q : Text) → prefix_of w q ≡ false → same_text w q ≡ false
same_other w q f =
    by_test (eqb (length w) (length q))
    (λ t. same_whole w q (eqb-true (length w) (length q) t) ∙ f)
    (λ t. same_length w q (eqb-false (length w) (length q) t))

prefix_joined : (p t q : Text) → prefix_of (p ++ t) q ≡ (prefix_of p q && prefix_of t (drop (length p) q))
unfolding prefix_of
prefix_joined [] t q = refl
prefix_joined (x ∷ p) t [] = refl
prefix_joined (x ∷ p) t (y ∷ q) = rw (prefix_joined p t q) (assoc (eqb y x) (prefix_of p q) (prefix_of t (drop (length p) q)))
  where
    assoc : (a c d : Bool) → (a && (c && d)) ≡ ((a && c) && d)
    assoc true c d = refl
    assoc false c d = refl

pub slash_short : (apart : Bool) → length (slash_if apart) ≤ 1
slash_short true = omega arith
slash_short false = omega arith

-- the tests in their order, where q is as long as p, the slash and the tail

module _ (p tail q : Text) (apart : Bool) (m : ℕ) (e : m ≡ length p + length (slash_if apart)) where
  whole_length : length (p ++ (slash_if apart ++ tail)) ≡ m + length tail
  whole_length = omega (arith, e, length-append p (slash_if apart ++ tail), length-append (slash_if apart) tail)

  pub joined_length : (length q ≡ m + length tail → ⊥) → false ≡ same_text (p ++ (slash_if apart ++ tail)) q
  joined_length n = sym (same_length (p ++ (slash_if apart ++ tail)) q (λ l. n (sym l ∙ whole_length)))

  module _ (l : length q ≡ m + length tail) (rest : Text) (d : rest ≡ drop m q) (b : Bool) (f : b ≡ prefix_of tail rest) where
    parts : same_text (p ++ (slash_if apart ++ tail)) q ≡ (prefix_of (p ++ (slash_if apart ++ [])) q && b)
    parts =
        let z : length (p ++ (slash_if apart ++ [])) ≡ m = omega (arith, e, length-append p (slash_if apart ++ []), length-append (slash_if apart) []) in
        let y : p ++ (slash_if apart ++ tail) ≡ (p ++ (slash_if apart ++ [])) ++ tail = ap (λ (s : Text). p ++ (s ++ tail)) (sym (append-nil (slash_if apart))) ∙ sym (append_assoc p (slash_if apart ++ []) tail) in
        same_whole (p ++ (slash_if apart ++ tail)) q (whole_length ∙ sym l)
        ∙ ap (λ (w : Text). prefix_of w q) y
        ∙ prefix_joined (p ++ (slash_if apart ++ [])) tail q
        ∙ ap (λ (s : Text). prefix_of (p ++ (slash_if apart ++ [])) q && prefix_of tail s) (ap (λ (k : ℕ). drop k q) z ∙ sym d)
        ∙ ap (λ (x : Bool). prefix_of (p ++ (slash_if apart ++ [])) q && x) (sym f)

    pub joined_other : b ≡ false → b ≡ same_text (p ++ (slash_if apart ++ tail)) q
    joined_other g = g ∙ sym (parts ∙ ap (λ (x : Bool). prefix_of (p ++ (slash_if apart ++ [])) q && x) g ∙ and-false (prefix_of (p ++ (slash_if apart ++ [])) q))

    pub joined_inside : b ≡ true → (r : Bool) → r ≡ prefix_of (p ++ (slash_if apart ++ [])) q → r ≡ same_text (p ++ (slash_if apart ++ tail)) q
    joined_inside t r i = i ∙ sym (parts ∙ ap (λ (x : Bool). prefix_of (p ++ (slash_if apart ++ [])) q && x) t ∙ and-true (prefix_of (p ++ (slash_if apart ++ [])) q))

-- a path that begins with p, and then with a slash

module _ (q p : Text) (apart b : Bool) (e : b ≡ prefix_of p q) where
  pub inside_other : b ≡ false → b ≡ prefix_of (p ++ (slash_if apart ++ [])) q
  inside_other f = f ∙ sym (prefix_joined p (slash_if apart ++ []) q ∙ ap (λ (x : Bool). x && prefix_of (slash_if apart ++ []) (drop (length p) q)) (sym e ∙ f))

  module _ (y : b ≡ true) where
    left : prefix_of (slash_if apart ++ []) (drop (length p) q) ≡ prefix_of (p ++ (slash_if apart ++ [])) q
    left = sym (prefix_joined p (slash_if apart ++ []) q ∙ ap (λ (x : Bool). x && prefix_of (slash_if apart ++ []) (drop (length p) q)) (sym e ∙ y))

    pub inside_bare : apart ≡ false → true ≡ prefix_of (p ++ (slash_if apart ++ [])) q
    unfolding prefix_of
    inside_bare f = (rw f refl) ∙ left

    module _ (a : apart ≡ true) where
      pub inside_none : length q ≤ length p → false ≡ prefix_of (p ++ (slash_if apart ++ [])) q
      unfolding prefix_of
      inside_none h = (rw (a, drop_of_length-le q h) refl) ∙ left

      pub inside_slash : length p < length q → (r : Bool) → r ≡ eqb (get_or q (length p) 0) slash → r ≡ prefix_of (p ++ (slash_if apart ++ [])) q
      unfolding prefix_of
      inside_slash h r i = i ∙ (rw (a, drop-cons q (length p) 0 h) (sym (and-true (eqb (get_or q (length p) 0) slash)))) ∙ left

-- Rows whose byte k is another than x, or whose byte m is another than y, begin with no text that has these bytes

module _ (text w : Text) (rows : List IndexRow) (i : ℕ) where
  pub passed_none : i ≤ length rows → Passed text rows w i i
  passed_none h = record { onward = omega arith; within = h; other = λ j h l. absurd (omega (arith, h, l)) }

  begins_other : (x k : ℕ) → k < length w → get_or w k 0 ≡ x → (row : IndexRow) → (get_or text (row.start + k) 0 ≡ x → ⊥) → prefix_of w (path_in text row) ≡ false
  begins_other x k h y row d =
      by_test (leb row.len k)
      (λ t. sym (prefix_short w (path_in text row) (omega (arith, leb-true row.len k t, length-take row.len (drop row.start text)))))
      (λ f. prefix_differs w (path_in text row) k h (λ e. d (sym (get_or-take row.len (drop row.start text) k 0 (leb-false row.len k f) ∙ get_or-drop row.start text k 0) ∙ e ∙ y)))

  passed_unlike : (x k y m : ℕ) → k < length w → get_or w k 0 ≡ x → m < length w → get_or w m 0 ≡ y → (r : ℕ) → Unlike text rows x k y m i r → Passed text rows w i r
  passed_unlike x k y m h e l f r a =
      record {
        onward = a.onward;
        within = a.within;
        other = λ j b c.
            by_test (eqb (get_or text ((index_at rows j).start + k) 0) x)
            (λ t. begins_other y m l f (index_at rows j) (a.other j b c (eqb-true (get_or text ((index_at rows j).start + k) 0) x t)))
            (λ u. begins_other x k h e (index_at rows j) (eqb-false (get_or text ((index_at rows j).start + k) 0) x u));
      }

-- the bytes of p and then the tail, after a slash where it is to stand apart

byte_after : (p t : Text) (j : ℕ) → get_or (p ++ t) (length p + j) 0 ≡ get_or t j 0
byte_after [] t j = let z : 0 + j ≡ j = omega arith in ap (λ (m : ℕ). get_or t m 0) z
byte_after (x ∷ p) t j = let z : suc (length p) + j ≡ suc (length p + j) = omega arith in ap (λ (m : ℕ). get_or (x ∷ (p ++ t)) m 0) z ∙ byte_after p t j

module _ (text p tail : Text) (apart : Bool) (rows : List IndexRow) (i k r : ℕ) where
  pub passed_front : k < length p → (m : ℕ) → m ≡ k - 1 → Unlike text rows (get_or p k 0) k (get_or p m 0) m i r → Passed text rows (p ++ (slash_if apart ++ tail)) i r
  passed_front h m e a =
      passed_unlike text (p ++ (slash_if apart ++ tail)) rows i (get_or p k 0) k (get_or p m 0) m
      (within k h) (get_or-append p (slash_if apart ++ tail) 0 k h)
      (within m (omega (arith, e, h))) (get_or-append p (slash_if apart ++ tail) 0 m (omega (arith, e, h)))
      r a
    where
      within : (j : ℕ) → j < length p → j < length (p ++ (slash_if apart ++ tail))
      within j l = omega (arith, l, length-append p (slash_if apart ++ tail))

  module _ (at : ℕ) (e : at ≡ length p + length (slash_if apart)) where
    in_tail : (j b : ℕ) → b ≡ at + j → j < length tail → (b < length (p ++ (slash_if apart ++ tail))) × (get_or (p ++ (slash_if apart ++ tail)) b 0 ≡ get_or tail j 0)
    in_tail j b d l =
        let z : length p + (length (slash_if apart) + j) ≡ b = omega (arith, e, d) in (
          omega (arith, d, e, l, length-append p (slash_if apart ++ tail), length-append (slash_if apart) tail),
          ap (λ (m : ℕ). get_or (p ++ (slash_if apart ++ tail)) m 0) (sym z) ∙ byte_after p (slash_if apart ++ tail) (length (slash_if apart) + j) ∙ byte_after (slash_if apart) tail j,
        )

    pub passed_tail : (j : ℕ) → k ≡ at + j → j < length tail → (m : ℕ) → m ≡ j - 1 → Unlike text rows (get_or tail j 0) k (get_or tail m 0) (at + m) i r → Passed text rows (p ++ (slash_if apart ++ tail)) i r
    passed_tail j d l m g a =
        let x = in_tail j k d l in
        let y = in_tail m (at + m) (omega arith) (omega (arith, g, l)) in
        passed_unlike text (p ++ (slash_if apart ++ tail)) rows i (get_or tail j 0) k (get_or tail m 0) (at + m) x.0 x.1 y.0 y.1 r a

-- The first of the table's rows

-- the number of the first path that is w, where the first path's number is i
unfoldable pub find_from : ℕ → Text → List Text → Option ℕ
find_from i w [] = None
find_from i w (q ∷ qs) = cond (same_text w q) (Some i) (find_from (suc i) w qs)

find_suc : (i : ℕ) (w : Text) (qs : List Text) → option_map suc (find_from i w qs) ≡ find_from (suc i) w qs
unfolding find_from
find_suc i w [] = refl
find_suc i w (q ∷ qs) = by_test (same_text w q) (λ t. rw t refl) (λ f. rw f (find_suc (suc i) w qs))

find_from_lem : (w : Text) (qs : List Text) → find w qs ≡ find_from 0 w qs
unfolding find find_from
find_from_lem w [] = refl
find_from_lem w (q ∷ qs) = by_test (same_text w q) (λ t. rw t refl) (λ f. rw f (ap (option_map suc) (find_from_lem w qs) ∙ find_suc 0 w qs))

module _ (text : Text) (rows : List IndexRow) where
  -- the paths from row i on
  abbrev pub rest : ℕ → List Text
  rest i = map (path_in text) (drop i rows)

  rest_none : (i : ℕ) → length rows ≤ i → rest i ≡ []
  rest_none i h = ap (map (path_in text)) (drop_of_length-le rows h)

  module _ (i : ℕ) (h : i < length rows) (q : Text) (e : q ≡ path_in text (index_at rows i)) where
    rest_row : rest i ≡ q ∷ rest (i + 1)
    rest_row = ap (map (path_in text)) (drop-cons rows i _ h) ∙ ap₂ (λ (x : Text) (j : ℕ). x ∷ rest j) (sym e) (sym (add-one i))

  module _ (w : Text) where
    -- rows that do not begin with w are passed over by a search that skips each of them
    module _ {X : Type 0} (f : ℕ → List Text → X) (skips : (i : ℕ) (q : Text) (qs : List Text) → prefix_of w q ≡ false → f i (q ∷ qs) ≡ f (suc i) qs) where
      past : (d i r : ℕ) → i + d ≡ r → Passed text rows w i r → f i (rest i) ≡ f r (rest r)
      past zero i r e a = let z : i ≡ r = omega arith in ap (λ (j : ℕ). f j (rest j)) z
      past (suc d) i r e a =
          ap (f i) (rest_row i (omega (arith, e, a.within)) (path_in text (index_at rows i)) refl)
          ∙ skips i _ _ (a.other i (omega (arith, e)) (omega arith))
          ∙ ap (λ (j : ℕ). f j (rest (i + 1))) (sym (add-one i))
          ∙ past d (i + 1) r (omega (arith, e)) (record { onward = omega (arith, e); within = a.within; other = λ j h l. a.other j h (omega (arith, l)) })

      passed : (i r : ℕ) → Passed text rows w i r → f i (rest i) ≡ f r (rest r)
      passed i r a = past (r - i) i r (omega (arith, a.onward)) a

    find_passed : (i r : ℕ) → Passed text rows w i r → find_from i w (rest i) ≡ find_from r w (rest r)
    unfolding find_from
    find_passed i r a = passed (λ (j : ℕ) (qs : List Text). find_from j w qs) (λ j q qs f. rw (same_other w q f) refl) i r a

    pub find_start : find w (path_table text rows) ≡ find_from 0 w (rest 0)
    find_start = find_from_lem w (path_table text rows)

    module _ (i c : ℕ) (a : Passed text rows w i c) (all : find w (path_table text rows) ≡ find_from i w (rest i)) where
      there : find w (path_table text rows) ≡ find_from c w (rest c)
      there = all ∙ find_passed i c a

      pub find_none : length rows ≤ c → None ≡ find w (path_table text rows)
      unfolding find_from
      find_none h = sym (there ∙ ap (find_from c w) (rest_none c h))

      module _ (h : c < length rows) (q : Text) (e : q ≡ path_in text (index_at rows c)) (b : Bool) (d : b ≡ same_text w q) where
        pub find_here : b ≡ true → Some c ≡ find w (path_table text rows)
        unfolding find_from
        find_here y = sym (there ∙ ap (find_from c w) (rest_row c h q e) ∙ rw (← d, y) refl)

        pub find_on : b ≡ false → find w (path_table text rows) ≡ find_from (c + 1) w (rest (c + 1))
        unfolding find_from
        find_on y = there ∙ ap (find_from c w) (rest_row c h q e) ∙ (rw (← d, y) (ap (λ (m : ℕ). find_from m w (rest (c + 1))) (sym (add-one c))))

    some_passed : (i r : ℕ) → Passed text rows w i r → some_of (prefix_of w) (rest i) ≡ some_of (prefix_of w) (rest r)
    unfolding some_of
    some_passed i r a = passed (λ (j : ℕ) (qs : List Text). some_of (prefix_of w) qs) (λ j q qs f. rw f refl) i r a

    pub some_start : (r : ℕ) → Passed text rows w 0 r → some_of (prefix_of w) (path_table text rows) ≡ some_of (prefix_of w) (rest r)
    some_start r a = some_passed 0 r a

    module _ (i : ℕ) (h : i < length rows) (q : Text) (e : q ≡ path_in text (index_at rows i)) where
      module _ (b : Bool) (d : b ≡ prefix_of w q) (all : some_of (prefix_of w) (path_table text rows) ≡ some_of (prefix_of w) (rest i)) where
        pub some_here : b ≡ true → true ≡ some_of (prefix_of w) (path_table text rows)
        unfolding some_of
        some_here y = sym (all ∙ ap (some_of (prefix_of w)) (rest_row i h q e) ∙ rw (← d, y) refl)

        pub some_on : b ≡ false → (r : ℕ) → Passed text rows w (i + 1) r → some_of (prefix_of w) (path_table text rows) ≡ some_of (prefix_of w) (rest r)
        unfolding some_of
        some_on y r a = all ∙ ap (some_of (prefix_of w)) (rest_row i h q e) ∙ (rw (← d, y) refl) ∙ some_passed (i + 1) r a

  pub some_none : (ok : Text → Bool) (i : ℕ) → length rows ≤ i → some_of ok (path_table text rows) ≡ some_of ok (rest i) → false ≡ some_of ok (path_table text rows)
  unfolding some_of
  some_none ok i h all = sym (all ∙ ap (some_of ok) (rest_none i h))

-- What is found is a row

found_in : (w : Text) (qs : List Text) (i j : ℕ) → Some j ≡ find_from i w qs → (i ≤ j) × (j < i + length qs)
unfolding find_from
found_in w [] i j e = let z : ◌≡◌ {A = ℕ} 0 1 = cc in absurd (omega (arith, z))
found_in w (q ∷ qs) i j e =
    by_test (same_text w q)
    (λ t. let k : j ≡ i = (let x : Some j ≡ Some i = rw t at e in cc) in omega arith)
    (λ f. let ih : (suc i ≤ j) × (j < suc i + length qs) = found_in w qs (suc i) j (rw f at e) in omega arith)

module _ (text : Text) (rows : List IndexRow) where
  -- the number is that of a row
  pub find_within : (w : Text) (j : ℕ) → Some j ≡ find w (path_table text rows) → j < length rows
  find_within w j e = omega (arith, found_in w (path_table text rows) 0 j (e ∙ find_from_lem w (path_table text rows)), length-map rows (path_in text))

  pub locate_within : (p : Text) (j : ℕ) → Some j ≡ locate (path_table text rows) p → j < length rows
  unfolding locate
  locate_within p j e = find_within (config_path (path_table text rows) p) j e

  -- a record's path, by its number
  pub path_row : (i : ℕ) → i < length rows → get_or (path_table text rows) i [] ≡ path_in text (index_at rows i)
  path_row i h = get_or-map (path_in text) rows i _ [] h

-- The asked path

module _ (table : List Text) (p : Text) where
  pub named_in : (name : Text) (apart : Bool) → joint p ≡ slash_if apart → (r : Option ℕ) → r ≡ find (p ++ (slash_if apart ++ name)) table → r ≡ find (push_of p name) table
  unfolding push_of
  named_in name apart j r h = h ∙ sym (rw j refl)

  pub whole_path : (r : Option ℕ) → r ≡ find (p ++ ([] ++ [])) table → r ≡ find p table
  whole_path r e = e ∙ ap (λ (w : Text). find w table) (append-nil p)

  pub dir_relative : (b : Bool) → b ≡ starts slash p → b ≡ false → false ≡ is_dir table p
  unfolding is_dir
  dir_relative b e f = rw (← e, f) refl

  pub dir_inside : (b : Bool) → b ≡ starts slash p → b ≡ true → (apart : Bool) → joint p ≡ slash_if apart → (r : Bool) → r ≡ some_of (prefix_of (p ++ (slash_if apart ++ []))) table → r ≡ is_dir table p
  unfolding is_dir push_of
  dir_inside b e y apart j r i = i ∙ (rw (← e, y, j) refl)

  module _ (own : Option ℕ) (e : own ≡ find p table) where
    pub locate_own : (i : ℕ) → own ≡ Some i → Some i ≡ locate table p
    unfolding locate config_path is_some
    locate_own i f = let g : find p table ≡ Some i = sym e ∙ f in sym g ∙ sym (ap (λ (o : Option ℕ). find (cond (is_some o) p (cond (is_dir table p) (push_of p tsconfig_json) (p ++ json))) table) g)

    module _ (f : own ≡ None) where
      other : locate table p ≡ find (cond (is_dir table p) (push_of p tsconfig_json) (p ++ json)) table
      unfolding locate config_path is_some
      other = let g : find p table ≡ None = sym e ∙ f in ap (λ (o : Option ℕ). find (cond (is_some o) p (cond (is_dir table p) (push_of p tsconfig_json) (p ++ json))) table) g

      module _ (b : Bool) (i : b ≡ is_dir table p) where
        pub locate_dir : b ≡ true → (r : Option ℕ) → r ≡ find (push_of p tsconfig_json) table → r ≡ locate table p
        locate_dir y r h = h ∙ sym (other ∙ (rw (← i, y) refl))

        pub locate_json : b ≡ false → (r : Option ℕ) → r ≡ find (p ++ json) table → r ≡ locate table p
        locate_json y r h = h ∙ sym (other ∙ (rw (← i, y) refl))

-- The table of an accepted book

module _ (commands text : Text) (rows : List IndexRow) (n : ℕ) (h : n ≤ length rows) (a : AcceptedAs commands text rows n) where
  cut : length (take n rows) ≡ n
  cut = length-take-le n rows h

  paths_are : (k i : ℕ) → i + k ≡ n → map (path_in text) (drop i (take n rows)) ≡ map (record_path_of text) (drop i a.records)
  paths_are zero i e = ap (map (path_in text)) (drop_of_length-le (take n rows) (omega (arith, e, cut))) ∙ sym (ap (map (record_path_of text)) (drop_of_length-le a.records (omega (arith, e, a.size))))
  paths_are (suc k) i e =
      rw (drop-cons a.records i [] (omega (arith, e, a.size)), drop-cons (take n rows) i no_row (omega (arith, e, cut)), get_or-take n rows i no_row (omega (arith, e)))
      (ap₂ (λ (x : Text) (xs : List Text). x ∷ xs) (a.each i (omega (arith, e))).path (paths_are k (suc i) (omega (arith, e))))

  -- the paths are the records'
  pub table_paths : path_table text (take n rows) ≡ map (record_path_of text) a.records
  table_paths = paths_are n 0 (omega arith)
