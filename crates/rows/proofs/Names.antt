-- A record names a field where a command with the field's place stands in it. Assumes nothing.
use mathlib.Core.Path.{◌≡◌, refl, sym, ap, ap₂, ◌∙◌}
use mathlib.Core.List.{List, [], ◌∷◌}
use mathlib.Core.Bool.{Bool, true, false, ◌&&◌, ◌||◌, cond, true≢false}
use Rattle.std.specs.Prelude.{Some, None}
use Prim.Native.Nat.{ℕ, zero, suc, ◌+◌, ◌≤◌, ◌<◌}
use native.Mathlib.Omega.{arith}
use lib.Dec.{eqb, ltb, leb}
use lib.ListN.{get_or}
use borrow.Author.Tests.{eqb-true, eqb-false, eq-eqb, ne_eqb, ltb-true, ltb-false, leb-true}
use Rattle.text.specs.Bytes.{Text}
use Rattle.text.specs.Text.{some_of}
use Rattle.path.specs.Path.{is_some}
use Rattle.text.proofs.Picks.{by_test}
use Rattle.book.specs.declared.Cmd.{Cmd}
use Rattle.book.specs.Command as command
use Rattle.book.specs.Rules.{text_of, in_range}
use Rattle.book.specs.Record.{is, is_id, only, first_of, single, listed, mapping, strings, keys_of, option_of, flag_of}
use Rattle.book.specs.Sound.{All, nil, cons, Good}
use Rattle.tsconfig.specs.Config.{Field, files, include, exclude, base_url, paths, root_dirs, out_dir, declaration_dir, flag, text}
use Rattle.tsconfig.specs.Parsed.{said}
use Rattle.rows.specs.Rows.{slot}
use Rattle.rows.specs.Own.{places, slot_of, names}

-- The table of places

-- the place of a command that is no flag and no text option
abbrev place : ℕ → ℕ
place op = cond (ltb op 0x15) (get_or places op 0) 28

unfoldable same_bit : Bool → Bool → Bool
same_bit true b = b
same_bit false true = false
same_bit false false = true

same_bit_lem : (a b : Bool) → same_bit a b ≡ true → a ≡ b
unfolding same_bit
same_bit_lem true true e = refl
same_bit_lem true false e = sym e
same_bit_lem false true e = e
same_bit_lem false false e = refl

unfoldable all_below : (ℕ → Bool) → ℕ → Bool
all_below p zero = true
all_below p (suc n) = p n && all_below p n

and_left : (a b : Bool) → a && b ≡ true → a ≡ true
and_left true b e = refl
and_left false b e = e

and_right : (a b : Bool) → a && b ≡ true → b ≡ true
and_right true b e = e
and_right false b e = absurd (true≢false (sym e))

all_below_lem : (p : ℕ → Bool) (n : ℕ) → all_below p n ≡ true → (i : ℕ) → i < n → p i ≡ true
unfolding all_below
all_below_lem p zero e i h = absurd (omega (arith, h))
all_below_lem p (suc n) e i h =
    by_test (eqb i n)
    (λ y. ap p (eqb-true i n y) ∙ and_left (p n) (all_below p n) e)
    (λ y. let z = eqb-false i n y in all_below_lem p n (and_right (p n) (all_below p n) e) i (omega (arith, h, z)))

-- the command with the byte m alone has the place k
abbrev agrees : ℕ → ℕ → ℕ → Bool
agrees k m op = same_bit (eqb (place op) k) (eqb op m)

place_is : (k m : ℕ) → k < 28 → m < 21 → all_below (agrees k m) 21 ≡ true → (op : ℕ) → eqb (place op) k ≡ eqb op m
place_is k m h l e op =
    by_test (ltb op 0x15)
    (λ y. same_bit_lem (eqb (place op) k) (eqb op m) (all_below_lem (agrees k m) 21 e op (ltb-true op 21 y)))
    (λ y. ap (λ (b : Bool). eqb (cond b (get_or places op 0) 28) k) y ∙ ne_eqb 28 k (λ q. omega (arith, q, h)) ∙ sym (ne_eqb op m (λ q. omega (arith, q, l, ltb-false op 21 y))))

-- no command has a place from 8 on by the table
abbrev low : ℕ → Bool
low op = leb (place op) 7 || eqb (place op) 28

place_low : (op k : ℕ) → 8 ≤ k → k < 28 → eqb (place op) k ≡ false
unfolding all_below
place_low op k g h =
    by_test (ltb op 0x15)
    (λ y. by_low (place op) (all_below_lem low 21 refl op (ltb-true op 21 y)))
    (λ y. ap (λ (b : Bool). eqb (cond b (get_or places op 0) 28) k) y ∙ ne_eqb 28 k (λ q. omega (arith, q, h)))
  where
    by_low : (x : ℕ) → leb x 7 || eqb x 28 ≡ true → eqb x k ≡ false
    by_low x e = by_test (leb x 7) (λ y. ne_eqb x k (λ q. omega (arith, q, g, leb-true x 7 y))) (λ y. ne_eqb x k (λ q. omega (arith, q, h, eqb-true x 28 (rw y at e))))

-- Which command has a place

abbrev flag_place : ℕ → ℕ
flag_place id = cond (ltb id 11) (8 + id) 28

abbrev text_place : ℕ → ℕ
text_place id = cond (ltb id 7) (19 + id) 28

flag_place_lem : (id : ℕ) (P : ℕ → Type 0) → (id < 11 → P (8 + id)) → (11 ≤ id → P 28) → P (flag_place id)
flag_place_lem id P f g = by_test (ltb id 11) (λ y. rw y (f (ltb-true id 11 y))) (λ y. rw y (g (ltb-false id 11 y)))

text_place_lem : (id : ℕ) (P : ℕ → Type 0) → (id < 7 → P (19 + id)) → (7 ≤ id → P 28) → P (text_place id)
text_place_lem id P f g = by_test (ltb id 7) (λ y. rw y (f (ltb-true id 7 y))) (λ y. rw y (g (ltb-false id 7 y)))

module _ (c : Cmd) where
  slot_by : (P : ℕ → Type 0) → (c.op ≡ command.flag → P (flag_place c.id)) → ((c.op ≡ command.flag → ⊥) → c.op ≡ command.text_option → P (text_place c.id))
      → ((c.op ≡ command.flag → ⊥) → (c.op ≡ command.text_option → ⊥) → P (place c.op)) → P (slot_of c)
  unfolding slot_of
  slot_by P f g h =
      by_test (eqb c.op command.flag) (λ y. rw y (f (eqb-true c.op command.flag y)))
      (λ y. by_test (eqb c.op command.text_option)
      (λ z. rw (y, z) (g (eqb-false c.op command.flag y) (eqb-true c.op command.text_option z)))
      (λ z. rw (y, z) (h (eqb-false c.op command.flag y) (eqb-false c.op command.text_option z))))

  -- by the byte alone
  names_op : (k m : ℕ) → k < 8 → m < 18 → all_below (agrees k m) 21 ≡ true → is m c ≡ names k c
  names_op k m h l e =
      slot_by (λ x. eqb c.op m ≡ eqb x k)
      (λ y. ne_eqb c.op m (λ q. omega (arith, q, y, l)) ∙ sym (flag_place_lem c.id (λ x. eqb x k ≡ false) (λ z. ne_eqb (8 + c.id) k (λ q. omega (arith, q, h))) (λ z. ne_eqb 28 k (λ q. omega (arith, q, h)))))
      (λ n y. ne_eqb c.op m (λ q. omega (arith, q, y, l)) ∙ sym (text_place_lem c.id (λ x. eqb x k ≡ false) (λ z. ne_eqb (19 + c.id) k (λ q. omega (arith, q, h))) (λ z. ne_eqb 28 k (λ q. omega (arith, q, h)))))
      (λ n o. sym (place_is k m (omega (arith, h)) (omega (arith, l)) e c.op))

  -- a flag
  names_flag : (id : ℕ) → id < 11 → is_id command.flag id c ≡ names (8 + id) c
  names_flag id h =
      slot_by (λ x. is_id command.flag id c ≡ eqb x (8 + id))
      (λ y. rw (eq-eqb c.op command.flag y)
      (flag_place_lem c.id (λ x. eqb c.id id ≡ eqb x (8 + id))
      (λ z. by_test (eqb c.id id) (λ e. e ∙ sym (eq-eqb (8 + c.id) (8 + id) (ap (λ (j : ℕ). 8 + j) (eqb-true c.id id e)))) (λ e. let n = eqb-false c.id id e in e ∙ sym (ne_eqb (8 + c.id) (8 + id) (λ q. n (omega (arith, q))))))
      (λ z. ne_eqb c.id id (λ q. omega (arith, q, z, h)) ∙ sym (ne_eqb 28 (8 + id) (λ q. omega (arith, q, h))))))
      (λ n y. rw (ne_eqb c.op command.flag n) (sym (text_place_lem c.id (λ x. eqb x (8 + id) ≡ false) (λ z. ne_eqb (19 + c.id) (8 + id) (λ q. omega (arith, q, h))) (λ z. ne_eqb 28 (8 + id) (λ q. omega (arith, q, h))))))
      (λ n o. rw (ne_eqb c.op command.flag n) (sym (place_low c.op (8 + id) (omega arith) (omega (arith, h)))))

  -- a text option
  names_text : (id : ℕ) → id < 7 → is_id command.text_option id c ≡ names (19 + id) c
  names_text id h =
      slot_by (λ x. is_id command.text_option id c ≡ eqb x (19 + id))
      (λ y. rw (ne_eqb c.op command.text_option (λ q. omega (arith, q, y))) (sym (flag_place_lem c.id (λ x. eqb x (19 + id) ≡ false) (λ z. ne_eqb (8 + c.id) (19 + id) (λ q. omega (arith, q, z))) (λ z. ne_eqb 28 (19 + id) (λ q. omega (arith, q, h))))))
      (λ n y. rw (eq-eqb c.op command.text_option y)
      (text_place_lem c.id (λ x. eqb c.id id ≡ eqb x (19 + id))
      (λ z. by_test (eqb c.id id) (λ e. e ∙ sym (eq-eqb (19 + c.id) (19 + id) (ap (λ (j : ℕ). 19 + j) (eqb-true c.id id e)))) (λ e. let n = eqb-false c.id id e in e ∙ sym (ne_eqb (19 + c.id) (19 + id) (λ q. n (omega (arith, q))))))
      (λ z. ne_eqb c.id id (λ q. omega (arith, q, z, h)) ∙ sym (ne_eqb 28 (19 + id) (λ q. omega (arith, q, h))))))
      (λ n o. rw (ne_eqb c.op command.text_option o) (sym (place_low c.op (19 + id) (omega arith) (omega (arith, h)))))

-- What a record says

some_same : {A : Type 0} (p q : A → Bool) → ((a : A) → p a ≡ q a) → (l : List A) → some_of p l ≡ some_of q l
unfolding some_of
some_same p q h [] = refl
some_same p q h (a ∷ l) = ap₂ (λ (x y : Bool). x || y) (h a) (some_same p q h l)

first_some : {A : Type 0} (f : Cmd → A) (ok : Cmd → Bool) (r : List Cmd) → is_some (first_of f (only ok r)) ≡ some_of ok r
unfolding first_of only is_some some_of
first_some f ok [] = refl
first_some f ok (c ∷ r) = by_test (ok c) (λ y. rw y refl) (λ y. rw y (first_some f ok r))

is_some_lem : {A : Type 0} (b : Bool) (a : A) → is_some (cond b (Some a) None) ≡ b
unfolding is_some
is_some_lem true a = refl
is_some_lem false a = refl

module _ (t : Text) (r : List Cmd) where
  listed_some : (mark item k : ℕ) → ((c : Cmd) → is mark c ≡ names k c) → is_some (listed t mark item r) ≡ some_of (names k) r
  unfolding listed
  listed_some mark item k h = is_some_lem (some_of (is mark) r) (strings t item r) ∙ some_same (is mark) (names k) h r

  single_some : (op k : ℕ) → ((c : Cmd) → is op c ≡ names k c) → is_some (single t op r) ≡ some_of (names k) r
  unfolding single
  single_some op k h = first_some (text_of t) (is op) r ∙ some_same (is op) (names k) h r

  -- a field with a place is named where a command with the place stands
  pub said_names : (f : Field) → slot f < 26 → is_some (said t r f) ≡ some_of (names (slot f)) r
  unfolding said slot mapping flag_of option_of all_below same_bit
  said_names files h = listed_some command.files command.file 0 (λ c. names_op c 0 2 (omega arith) (omega arith) refl)
  said_names include h = listed_some command.include command.include_item 1 (λ c. names_op c 1 4 (omega arith) (omega arith) refl)
  said_names exclude h = listed_some command.exclude command.exclude_item 2 (λ c. names_op c 2 6 (omega arith) (omega arith) refl)
  said_names base_url h = single_some command.base_url 3 (λ c. names_op c 3 9 (omega arith) (omega arith) refl)
  said_names paths h = is_some_lem (some_of (is command.paths) r) (keys_of t r) ∙ some_same (is command.paths) (names 4) (λ c. names_op c 4 10 (omega arith) (omega arith) refl) r
  said_names root_dirs h = listed_some command.root_dirs command.root_dir 5 (λ c. names_op c 5 14 (omega arith) (omega arith) refl)
  said_names out_dir h = single_some command.out_dir 6 (λ c. names_op c 6 16 (omega arith) (omega arith) refl)
  said_names declaration_dir h = single_some command.declaration_dir 7 (λ c. names_op c 7 17 (omega arith) (omega arith) refl)
  said_names (flag id) h =
      by_test (ltb id 11)
      (λ y. rw y (first_some (λ c. eqb c.value 1) (is_id command.flag id) r ∙ some_same (is_id command.flag id) (names (8 + id)) (λ c. names_flag c id (ltb-true id 11 y)) r))
      (λ y. absurd (let z : 28 < 26 = rw y at h in omega (arith, z)))
  said_names (text id) h =
      by_test (ltb id 7)
      (λ y. rw y (first_some (text_of t) (is_id command.text_option id) r ∙ some_same (is_id command.text_option id) (names (19 + id)) (λ c. names_text c id (ltb-true id 7 y)) r))
      (λ y. absurd (let z : 28 < 26 = rw y at h in omega (arith, z)))

-- A field without a place is named by no record of an accepted book

none_of_lem : (t : Text) (ok : Cmd → Bool) → ((c : Cmd) → in_range c ≡ true → ok c ≡ false) → (r : List Cmd) → All (Good t) r → some_of ok r ≡ false
unfolding some_of
none_of_lem t ok h [] nil = refl
none_of_lem t ok h (c ∷ r) (cons g gs) = rw (h c g.range) (none_of_lem t ok h r gs)

flag_ranged : (id : ℕ) → 11 ≤ id → (c : Cmd) → in_range c ≡ true → is_id command.flag id c ≡ false
unfolding in_range
flag_ranged id h c e =
    by_test (eqb c.op command.flag)
    (λ y. rw y (ne_eqb c.id id (λ q. omega (arith, q, h, leb-true c.id 10 (and_left (leb c.id 10) (leb c.value 1) (rw y at e))))))
    (λ y. rw y refl)

text_ranged : (id : ℕ) → 7 ≤ id → (c : Cmd) → in_range c ≡ true → is_id command.text_option id c ≡ false
unfolding in_range
text_ranged id h c e =
    by_test (eqb c.op command.text_option)
    (λ y. rw y (ne_eqb c.id id (λ q. omega (arith, q, h, leb-true c.id 6 (rw (ne_eqb c.op command.flag (λ z. omega (arith, z, eqb-true c.op command.text_option y)), y) at e)))))
    (λ y. rw y refl)

module _ (t : Text) (r : List Cmd) (good : All (Good t) r) where
  pub said_none : (f : Field) → 26 ≤ slot f → is_some (said t r f) ≡ false
  unfolding said slot flag_of option_of
  said_none files h = absurd (omega (arith, h))
  said_none include h = absurd (omega (arith, h))
  said_none exclude h = absurd (omega (arith, h))
  said_none base_url h = absurd (omega (arith, h))
  said_none paths h = absurd (omega (arith, h))
  said_none root_dirs h = absurd (omega (arith, h))
  said_none out_dir h = absurd (omega (arith, h))
  said_none declaration_dir h = absurd (omega (arith, h))
  said_none (flag id) h =
      by_test (ltb id 11)
      (λ y. absurd (let z : 26 ≤ 8 + id = rw y at h in omega (arith, z, ltb-true id 11 y)))
      (λ y. first_some (λ c. eqb c.value 1) (is_id command.flag id) r ∙ none_of_lem t (is_id command.flag id) (flag_ranged id (ltb-false id 11 y)) r good)
  said_none (text id) h =
      by_test (ltb id 7)
      (λ y. absurd (let z : 26 ≤ 19 + id = rw y at h in omega (arith, z, ltb-true id 7 y)))
      (λ y. first_some (text_of t) (is_id command.text_option id) r ∙ none_of_lem t (is_id command.text_option id) (text_ranged id (ltb-false id 7 y)) r good)

-- the place of a field, within the row or behind it
pub slot_split : (f : Field) → {X : Type 0} → (slot f < 26 → X) → (slot f ≡ 28 → X) → X
unfolding slot
slot_split files p q = p (omega arith)
slot_split include p q = p (omega arith)
slot_split exclude p q = p (omega arith)
slot_split base_url p q = p (omega arith)
slot_split paths p q = p (omega arith)
slot_split root_dirs p q = p (omega arith)
slot_split out_dir p q = p (omega arith)
slot_split declaration_dir p q = p (omega arith)
slot_split (flag id) p q = by_test (ltb id 11) (λ y. p (rw y (omega (arith, ltb-true id 11 y)))) (λ y. q (rw y refl))
slot_split (text id) p q = by_test (ltb id 7) (λ y. p (rw y (omega (arith, ltb-true id 7 y)))) (λ y. q (rw y refl))
