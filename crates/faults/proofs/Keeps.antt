-- The rules of order over the state that the code keeps, and that it says what the definition reads off the commands before. Assumes nothing.
use mathlib.Core.Path.{◌≡◌, refl, sym, ap, subst, ◌∙◌}
use Rattle.std.proofs.lemmas.Bool.{and_parts}
use mathlib.Core.List.{List, [], ◌∷◌}
use mathlib.Core.Bool.{Bool, true, false, not, ◌&&◌, ◌||◌, cond, true≢false, and-false}
use Prim.Native.Nat.{ℕ, zero, suc, ◌+◌, ◌-◌, ◌≤◌, ◌<◌}
use native.Mathlib.Omega.{arith}
use native.Mathlib.Numerals.{add-one}
use lib.ListN.{length, get_or, set, take, drop, replicate, length-set}
use lib.Seq.{get_or-set_same, get_or-set_other}
use lib.Dec.{eqb, leb, leb→le}
use borrow.Author.Tests.{eq-eqb, ne_eqb, le-leb, lt-leb, eqb-true, eqb-false, leb-true}
use Rattle.text.specs.Bytes.{Text}
use Rattle.book.specs.declared.Cmd.{Cmd}
use Rattle.strings.specs.Strings.{string_rule}
use Rattle.text.specs.Text.{each_of}
use Rattle.text.proofs.Scans.{each_as_std}
use Rattle.std.specs.List.{list_all}
use Rattle.std.proofs.lemmas.List.{take-append-drop}
use Rattle.std.proofs.lemmas.List.Folds.{list_all-append}
use Rattle.strings.specs.Scan.{tame_text}
use Rattle.strings.proofs.Tame.{tame_part}
use Rattle.book.specs.Command.{begin, key, target, flag, text_option}
use Rattle.book.specs.Rules.{slot, in_range, tally, openers, limits, opened, fresh, follows, in_order, too_many, text_of, own_rule, good_string}
use Rattle.book.specs.State.{has, pushed, Agrees, slotted, entry}
use Rattle.std.specs.Prelude.{Option, Some, None, MatchOption}
use Rattle.book.proofs.Table.{at_each, T_true}
use Rattle.text.proofs.Picks.{by_test}

pub limits_small : (k : ℕ) → k < 21 → get_or limits k 0 ≤ 64
limits_small k h = leb→le (get_or limits k 0) 64 (at_each (λ i x. leb x 64) limits tt k h)

pub limits_eight : (k : ℕ) → k < 21 → eqb (get_or limits k 0) 0 ≡ false → 8 ≤ get_or limits k 0
limits_eight k h e =
    leb-true 8 (get_or limits k 0)
    (let z = T_true (eqb (get_or limits k 0) 0 || leb 8 (get_or limits k 0)) (at_each (λ i x. eqb x 0 || leb 8 x) limits tt k h) in rw e at z)

pub true_but_for : (a b : Bool) → (a || b) ≡ true → b ≡ false → a ≡ true
true_but_for true b e f = refl
true_but_for false b e f = absurd (true≢false (sym e ∙ f))

-- BEGIN alone comes after nothing
pub only_begin : (k : ℕ) → k < 21 → get_or openers k 0 ≡ 0 → k ≡ 1
only_begin k h e = eqb-true k 1 (true_but_for (eqb k 1) (not (eqb (get_or openers k 0) 0)) (T_true _ (at_each (λ i x. eqb i 1 || not (eqb x 0)) openers tt k h)) (rw e refl))

-- an entry of a table
pub entry_some : (n : ℕ) {k : ℕ} → entry n ≡ Some k → (k ≡ n) × (k ≡ 0 → ⊥)
entry_some n {k} e =
    by_test (eqb n 0)
    (λ y. let z : ◌≡◌ {A = Option ℕ} None (Some k) = rw y at e in let q : ⊥ = cc in absurd q)
    (λ y. let z : Some n ≡ Some k = rw y at e in let q : n ≡ k = cc in (sym q, λ h. eqb-false n 0 y (q ∙ h)))

pub entry_none : (n : ℕ) → entry n ≡ None → n ≡ 0
entry_none n e =
    by_test (eqb n 0)
    (λ y. eqb-true n 0 y)
    (λ y. let z : Some n ≡ None = rw y at e in let q : ⊥ = cc in absurd q)

module _ (count : ℕ → ℕ) (last : ℕ) (c : Cmd) where
  pub order_range : in_range c ≡ false → false ≡ in_order count last c
  unfolding in_order
  order_range e = rw e refl

  pub ranged : in_order count last c ≡ true → in_range c ≡ true
  unfolding in_order
  ranged o = (and_parts (in_range c) _ o).0

-- a command's slot, where it has one
module _ (c : Cmd) where
  pub slotted_some : {k : ℕ} → slotted c ≡ Some k → (in_range c ≡ true) × (k ≡ slot c)
  unfolding slotted
  slotted_some {k} e =
      by_test (in_range c)
      (λ y. let z : Some (slot c) ≡ Some k = rw y at e in let q : slot c ≡ k = cc in (y, sym q))
      (λ y. let z : ◌≡◌ {A = Option ℕ} None (Some k) = rw y at e in let q : ⊥ = cc in absurd q)

  pub slotted_none : slotted c ≡ None → in_range c ≡ false
  unfolding slotted
  slotted_none e =
      by_test (in_range c)
      (λ y. let z : Some (slot c) ≡ None = rw y at e in let q : ⊥ = cc in absurd q)
      (λ y. y)

  pub slot_under : c.op < 21 → in_range c ≡ true → slot c < 39
  unfolding slot in_range
  slot_under h e =
      by_test (eqb c.op flag)
      (λ y. let z : (leb c.id 10 && leb c.value 1) ≡ true = rw y at e in rw y (omega (arith, leb-true c.id 10 (and_parts (leb c.id 10) (leb c.value 1) z).0)))
      (λ y. by_test (eqb c.op text_option)
      (λ t. let z : leb c.id 6 ≡ true = rw (y, t) at e in rw (y, t) (omega (arith, leb-true c.id 6 z)))
      (λ t. rw (y, t) (omega (arith, h))))

  pub slot_small : c.op < 21 → {k : ℕ} → slotted c ≡ Some k → k < 39
  slot_small h e = let s = slotted_some e in omega (arith, s.1, slot_under h s.0)

-- of a record's first command, which is BEGIN
module _ (c : Cmd) where
  pub first_in_order : c.op ≡ begin → true ≡ in_order (λ k. 0) 0 c
  unfolding in_order in_range opened fresh follows
  first_in_order e = rw e refl

  pub first_not_in_order : c.op < 21 → (c.op ≡ begin → ⊥) → false ≡ in_order (λ k. 0) 0 c
  unfolding in_order opened
  first_not_in_order h n = rw (ne_eqb (get_or openers c.op 0) 0 (λ z. n (only_begin c.op h z))) (sym (and-false (in_range c)))

-- behind BEGIN no other comes
pub begin_not_again : (count : ℕ → ℕ) (last : ℕ) (c : Cmd) → (count begin ≡ 0 → ⊥) → in_order count last c ≡ true → c.op ≡ begin → ⊥
unfolding in_order fresh slot
begin_not_again count last c n o e =
    let w : eqb (count begin) 0 ≡ true = rw e at (and_parts (fresh count last c) _ (and_parts (opened count last c) _ (and_parts (in_range c) _ o).1).1).0 in
    n (eqb-true (count begin) 0 w)

module _ (count : ℕ → ℕ) (last : ℕ) (c : Cmd) (op : ℕ) (is : op ≡ c.op) where
  module _ (range : in_range c ≡ true) (r : Bool) (e : r ≡ (eqb (get_or openers op 0) 0 || not (eqb (count (get_or openers op 0)) 0))) where
    pub order_closed : r ≡ false → false ≡ in_order count last c
    unfolding in_order opened
    order_closed f = rw (range, ← is, ← e, f) refl

    module _ (k : ℕ) (slotted : k ≡ slot c) (t : r ≡ true) (r₂ : Bool) (e₂ : r₂ ≡ (not (eqb (get_or limits op 0) 0) || eqb (count k) 0)) where
      pub order_again : r₂ ≡ false → false ≡ in_order count last c
      unfolding in_order opened fresh
      order_again f = rw (range, ← slotted, ← is, ← e, t, ← e₂, f) refl

      pub order_on : r₂ ≡ true → (r₃ : Bool) → r₃ ≡ (not (eqb c.op target) || (eqb last key || eqb last target)) → r₃ ≡ in_order count last c
      unfolding in_order opened fresh follows
      order_on f r₃ g = g ∙ rw (range, ← slotted, ← is, ← e, t, ← e₂, f) refl

  pub many_begin : (n : ℕ) → op ≡ begin → leb 64 n ≡ too_many count last c n
  unfolding too_many
  many_begin n f = rw (← is, eq-eqb _ _ f) refl

  pub many_once : (n m : ℕ) → (op ≡ begin → ⊥) → m ≡ get_or limits op 0 → m ≡ 0 → false ≡ too_many count last c n
  unfolding too_many
  many_once n m f e z = rw (← is, ne_eqb _ _ f, ← e, eq-eqb _ _ z) refl

  pub many_on : (n m k : ℕ) → (op ≡ begin → ⊥) → m ≡ get_or limits op 0 → (m ≡ 0 → ⊥) → k ≡ slot c → leb m (count k) ≡ too_many count last c n
  unfolding too_many
  many_on n m k f e z s = rw (← s, ← is, ne_eqb _ _ f, ← e, ne_eqb _ _ z) refl

  -- by the command's limit, if it has one: P is what is known of the answer where it has
  pub many_by :
      (n k : ℕ) → (op ≡ begin → ⊥) → k ≡ slot c → (o : Option ℕ) → o ≡ entry (get_or limits op 0) → (r : Bool) (P : ℕ → Type 0) → MatchOption o (r ≡ false) P → ((x : ℕ) → P x → r ≡ leb x (count k)) →
      r ≡ too_many count last c n
  many_by n k f s None e r P h y = h ∙ many_once n (get_or limits op 0) f refl (entry_none _ (sym e))
  many_by n k f s (Some x) e r P h y = let z = entry_some _ (sym e) in y x h ∙ many_on n x k f z.0 z.1 s

  pub many_few : (n m k : ℕ) → (op ≡ begin → ⊥) → op < 21 → k ≡ slot c → m ≡ count k → m < 8 → false ≡ too_many count last c n
  unfolding too_many
  many_few n m k f h s e l =
      rw (← s, ← is, ne_eqb _ _ f, ← e)
      (by_test (eqb (get_or limits op 0) 0)
      (λ y. rw y refl)
      (λ y. rw (y, lt-leb (get_or limits op 0) m (omega (arith, l, limits_eight op h y))) refl))

-- of `last` it does not speak
pub many_any : (count : ℕ → ℕ) (last last' : ℕ) (c : Cmd) (n : ℕ) → too_many count last c n ≡ too_many count last' c n
unfolding too_many
many_any count last last' c n = refl

module _ (text : Text) (c : Cmd) where
  pub held_on : c.start + c.len ≤ length text → (r : Bool) → r ≡ string_rule (text_of text c) → r ≡ (leb (c.start + c.len) (length text) && string_rule (text_of text c))
  held_on h r e = rw (le-leb _ _ h) e

  module _ (b : Bool) (e : b ≡ (leb (c.start + c.len) (length text) && string_rule (text_of text c))) where
    pub good_not : b ≡ false → false ≡ good_string text c
    unfolding good_string
    good_not f = not_both (leb (c.start + c.len) (length text)) (string_rule (text_of text c)) (sym e ∙ f)
      where
        not_both : (x y : Bool) → (x && y) ≡ false → false ≡ (x && (y && own_rule c.op (text_of text c)))
        not_both true true z = absurd (true≢false z)
        not_both true false z = refl
        not_both false y z = refl

    pub good_on : b ≡ true → (r : Bool) → r ≡ own_rule c.op (text_of text c) → r ≡ good_string text c
    unfolding good_string
    good_on t r k = yes_both (leb (c.start + c.len) (length text)) (string_rule (text_of text c)) (sym e ∙ t)
      where
        yes_both : (x y : Bool) → (x && y) ≡ true → r ≡ (x && (y && own_rule c.op (text_of text c)))
        yes_both true true z = k
        yes_both true false z = absurd (true≢false (sym z))
        yes_both false y z = absurd (true≢false (sym z))

-- a command's string, cut out of the text
pub cut_text : (text : Text) (c : Cmd) → take (c.start + c.len - c.start) (drop c.start text) ≡ text_of text c
unfolding text_of
cut_text text c = let e : c.start + c.len - c.start ≡ c.len = omega arith in ap (λ (k : ℕ). take k (drop c.start text)) e

-- what holds of each byte of a text holds of each in its two parts
pub each_split : (P : ℕ → Bool) (k : ℕ) (s : Text) → each_of P s ≡ (each_of P (take k s) && each_of P (drop k s))
each_split P k s =
    sym (each_as_std P s) ∙ ap (list_all P) (sym (take-append-drop k s)) ∙ list_all-append P (take k s) (drop k s)
    ∙ rw (each_as_std P (take k s), each_as_std P (drop k s)) refl

-- and so of each in a part of it
pub each_part : (P : ℕ → Bool) (s : Text) (a b : ℕ) → each_of P s ≡ true → each_of P (take b (drop a s)) ≡ true
each_part P s a b e =
    let d : each_of P (drop a s) ≡ true = (and_parts (each_of P (take a s)) _ (sym (each_split P a s) ∙ e)).1 in
    (and_parts (each_of P (take b (drop a s))) _ (sym (each_split P b (drop a s)) ∙ d)).0

-- a command's string is a part of a tame text
pub tame_string : (text : Text) (c : Cmd) → tame_text text ≡ true → (s : Text) → s ≡ text_of text c → tame_text s ≡ true
unfolding text_of
tame_string text c t s e = subst (λ (l : Text). tame_text l ≡ true) (sym e) (tame_part text c.start c.len t)

-- the ways out of the code's slot
module _ (c : Cmd) where
  pub slot_flag : c.op ≡ flag → c.id ≤ 10 → c.value ≤ 1 → Some (21 + c.id) ≡ slotted c
  unfolding slotted in_range slot
  slot_flag e h v = rw (eq-eqb _ _ e, le-leb _ _ h, le-leb _ _ v) refl

  pub slot_flag_id : c.op ≡ flag → 10 < c.id → None ≡ slotted c
  unfolding slotted in_range
  slot_flag_id e h = rw (eq-eqb _ _ e, lt-leb _ _ h) refl

  pub slot_flag_value : c.op ≡ flag → 1 < c.value → None ≡ slotted c
  unfolding slotted in_range
  slot_flag_value e h = rw (eq-eqb _ _ e, lt-leb _ _ h, and-false (leb c.id 10)) refl

  pub slot_text : c.op ≡ text_option → c.id ≤ 6 → Some (32 + c.id) ≡ slotted c
  unfolding slotted in_range slot
  slot_text e h = rw (e, le-leb _ _ h) refl

  pub slot_text_id : c.op ≡ text_option → 6 < c.id → None ≡ slotted c
  unfolding slotted in_range
  slot_text_id e h = rw (e, lt-leb _ _ h) refl

  pub slot_byte : (c.op ≡ flag → ⊥) → (c.op ≡ text_option → ⊥) → Some c.op ≡ slotted c
  unfolding slotted in_range slot
  slot_byte n m = rw (ne_eqb _ _ n, ne_eqb _ _ m) refl

-- a slot is a key's just where the byte is
pub slot_key : (c : Cmd) → eqb (slot c) key ≡ eqb c.op key
unfolding slot
slot_key c =
    by_test (eqb c.op flag)
    (λ e. rw e (ne_eqb (21 + c.id) 11 (λ h. absurd (omega (arith, h))) ∙ sym (ne_eqb c.op key (λ h. absurd (omega (arith, h, eqb-true c.op flag e))))))
    (λ e. by_test (eqb c.op text_option)
    (λ f. rw (e, f) (ne_eqb (32 + c.id) 11 (λ h. absurd (omega (arith, h))) ∙ sym (ne_eqb c.op key (λ h. absurd (omega (arith, h, eqb-true c.op text_option f))))))
    (λ f. rw (e, f) refl))

-- The counts after a command say of it and those before what the definition reads off them.
module _ (ns : List ℕ) (last : ℕ) (c : Cmd) (here : List Cmd) (a : Agrees ns last here) (l : slot c < 39) where
  same_slot : get_or (set ns (slot c) (has ns (slot c) + 1)) (slot c) 0 ≡ suc (tally (slot c) here)
  same_slot = get_or-set_same ns (slot c) (has ns (slot c) + 1) 0 (omega (arith, l, a.size)) ∙ add-one (has ns (slot c)) ∙ ap suc (a.each (slot c))

  raised : List ℕ
  raised = set ns (slot c) (has ns (slot c) + 1)

  one_more : (j : ℕ) → get_or raised j 0 ≡ cond (eqb (slot c) j) (suc (tally j here)) (tally j here)
  unfolding raised
  one_more j =
      by_test (eqb (slot c) j)
      (λ e. rw e (subst (λ (i : ℕ). get_or (set ns (slot c) (has ns (slot c) + 1)) i 0 ≡ suc (tally i here)) (eqb-true (slot c) j e) same_slot))
      (λ e. rw e (get_or-set_other ns (slot c) j _ 0 (λ q. eqb-false (slot c) j e (sym q)) ∙ a.each j))

  key_more : eqb (slot c) key ≡ true → (j : ℕ) → get_or (set raised target 0) j 0 ≡ tally j (c ∷ here)
  unfolding tally raised
  key_more k j =
      by_test (eqb j target)
      (λ e.
      let q : slot c ≡ key = eqb-true (slot c) key k in
      let z : j ≡ target = eqb-true j target e in
      rw (k, e, ne_eqb (slot c) j (λ h. absurd (omega (arith, q, z, h))))
      (subst (λ (i : ℕ). get_or (set raised target 0) i 0 ≡ 0) (sym z) (get_or-set_same raised target 0 0 (omega (arith, a.size, length-set ns (slot c) (has ns (slot c) + 1))))))
      (λ e. rw (k, e) (get_or-set_other raised target j 0 0 (eqb-false j target e) ∙ one_more j))

  other_more : eqb (slot c) key ≡ false → (j : ℕ) → get_or raised j 0 ≡ tally j (c ∷ here)
  unfolding tally
  other_more k j = rw k (one_more j)

  pub agree_push : Agrees (pushed ns c (slot c)) c.op (c ∷ here)
  unfolding pushed raised
  agree_push =
      by_test (eqb c.op key)
      (λ e. rw e record {
        size = length-set raised target 0 ∙ length-set ns (slot c) _ ∙ a.size;
        each = key_more (slot_key c ∙ e);
        byte = refl;
      })
      (λ e. rw e record { size = length-set ns (slot c) _ ∙ a.size; each = other_more (slot_key c ∙ e); byte = refl })

-- at the start of a record
pub agree_none : (ns : List ℕ) (last : ℕ) → ns ≡ replicate 39 0 → last ≡ 0 → Agrees ns last []
unfolding tally
agree_none ns last e f = record { size = ap length e; each = λ k. ap (λ (l : List ℕ). get_or l k 0) e ∙ get_d_replicate 39 k; byte = f }
  where
    get_d_replicate : (n k : ℕ) → ◌≡◌ {A = ℕ} (get_or (replicate n 0) k 0) 0
    get_d_replicate zero k = refl
    get_d_replicate (suc n) zero = refl
    get_d_replicate (suc n) (suc k) = get_d_replicate n k
