-- A command that fits is usual, and so is one without operands that comes for the first time. Assumes nothing.
use mathlib.Core.Path.{◌≡◌, refl, sym, ap, ◌∙◌}
use mathlib.Core.List.{List, []}
use mathlib.Core.Bool.{Bool, true, false, not, ◌||◌, cond, or-true}
use Rattle.std.specs.Prelude.{Some, None}
use Prim.Native.Nat.{ℕ, ◌+◌, ◌-◌, ◌≤◌, ◌<◌}
use native.Mathlib.Omega.{arith}
use lib.ListN.{length, get_or, set, drop, length-set}
use lib.Seq.{drop-cons, get_or-set_other}
use lib.Dec.{T, eqb, ltb}
use borrow.Author.Tests.{eq-eqb, ne_eqb, le-leb, lt-leb, eqb-true, eqb-false, ltb-true, lt-ltb, not-true}
use Rattle.text.specs.Bytes.{Text}
use Rattle.text.specs.Text.{each_of}
use Rattle.text.proofs.Picks.{by_test}
use Rattle.book.specs.declared.Cmd.{Cmd}
use Rattle.std.specs.Prelude.{Ok}
use Rattle.strings.specs.Strings.{string_rule}
use Rattle.book.specs.Command.{begin, key, target, flag, text_option, end, widths, width_of, operands}
use Rattle.book.specs.Rules.{slot, in_range, openers, limits, in_order, too_many, text_of, own_rule, good_string, given_before, fault_of}
use Rattle.book.specs.Steps.{step_at}
use Rattle.book.specs.State.{has, pushed, slotted}
use Rattle.book.proofs.Table.{every, at_each, T_true}
use Rattle.book.proofs.Steps.{step_command}
use Rattle.faults.proofs.Keeps.{order_on, many_once, many_on}
use Rattle.usual.specs.Usual.{most_of, Open, Usual, Passed, still, more}

no_eqb : (a b : ℕ) → not (eqb a b) ≡ true → a ≡ b → ⊥
no_eqb a b e = eqb-false a b (not-true (eqb a b) e)

pub read_op : (part : Text) (at op : ℕ) (c : Cmd) → at < length part → get_or part at 0 ≡ op → c ≡ operands 4 (drop at part) → c.op ≡ op
unfolding operands
read_op part at op c h b e = ap (λ (x : Cmd). x.op) e ∙ rw (drop-cons part at 0 h) b

-- what the table of widths tells of a command, by one test at each entry
by_width : (w : ℕ) (f : ℕ → Bool) → T (every (λ i x. not (eqb x w) || f i) 0 widths) → (op : ℕ) → op < 21 → width_of op ≡ w → f op ≡ true
unfolding width_of
by_width w f t op h e =
    let z : (not (eqb (get_or widths op 0) w) || f op) ≡ true = T_true _ (at_each (λ i x. not (eqb x w) || f i) widths t op h) in
    let y : get_or widths op 0 ≡ w = rw (lt-ltb op 21 h) at e in
    rw (eq-eqb _ _ y) at z

pub known : (op w : ℕ) → width_of op ≡ w → (w ≡ 9 → ⊥) → op < 21
unfolding width_of
known op w e n = by_test (ltb op 21) (λ y. ltb-true op 21 y) (λ y. let z : 9 ≡ w = rw y at e in absurd (n (sym z)))

pub small_width : {op : ℕ} → width_of op ≡ 0 → op < 21
small_width e = known _ 0 e (λ z. absurd (omega (arith, z)))

pub small : {ns : List ℕ} {last op most : ℕ} → Open ns last op most → op < 21
small may = known _ 4 may.width (λ e. absurd (omega (arith, e)))

-- a command whose slot is its byte, of which what follows is known
module _ (text : Text) (ns : List ℕ) (last : ℕ) (c : Cmd) (op : ℕ) (is : op ≡ c.op) (small : op < 21) (no_flag : op ≡ flag → ⊥) (no_text : op ≡ text_option → ⊥) where
  in_range_lem : in_range c ≡ true
  unfolding in_range
  in_range_lem = rw (← is, ne_eqb op flag no_flag, ne_eqb op text_option no_text) refl

  pub slot_is : op ≡ slot c
  unfolding slot
  slot_is = rw (← is, ne_eqb op flag no_flag, ne_eqb op text_option no_text) refl

  pub slot_told : slotted c ≡ Some op
  unfolding slotted
  slot_told = rw (in_range_lem, ← slot_is) refl

  module _ (no_begin : op ≡ begin → ⊥)
      (follow : (not (eqb op target) || (eqb last key || eqb last target)) ≡ true)
      (unlocked : (eqb (get_or openers op 0) 0 || not (eqb (has ns (get_or openers op 0)) 0)) ≡ true)
      (room : has ns op < most_of op) (good : good_string text c ≡ true) where
    fresh_still : true ≡ (not (eqb (get_or limits op 0) 0) || eqb (has ns op) 0)
    fresh_still =
        by_test (eqb (get_or limits op 0) 0)
        (λ e. let l : has ns op < 1 = rw e at room in rw (e, eq-eqb (has ns op) 0 (omega (arith, l))) refl)
        (λ e. rw e refl)

    order : in_order (has ns) last c ≡ true
    order = sym (order_on (has ns) last c op is in_range_lem true (sym unlocked) op slot_is refl true fresh_still refl true (sym (rw (← is) follow)))

    few : (n : ℕ) → too_many (has ns) last c n ≡ false
    few n =
        by_test (eqb (get_or limits op 0) 0)
        (λ e. sym (many_once (has ns) last c op is n (get_or limits op 0) no_begin refl (eqb-true _ _ e)))
        (λ e.
        let l : has ns op < get_or limits op 0 = rw e at room in
        sym (many_on (has ns) last c op is n (get_or limits op 0) op no_begin refl (eqb-false _ _ e) slot_is) ∙ lt-leb (get_or limits op 0) (has ns op) l)

    -- nothing is wrong with it if it was not given before
    pub clear_of : (n : ℕ) (keys paths : List Text) → given_before keys paths c.op (text_of text c) ≡ false → fault_of text (has ns) last n keys paths c ≡ None
    unfolding fault_of
    clear_of n keys paths g = rw (order, good, few n, g) refl

    module _ (no_key : op ≡ key → ⊥) where
      not_given : (keys paths : List Text) → given_before keys paths c.op (text_of text c) ≡ false
      unfolding given_before
      not_given keys paths = rw (← is, ne_eqb op begin no_begin, ne_eqb op key no_key) refl

      pub clear_still : (n : ℕ) (keys paths : List Text) → fault_of text (has ns) last n keys paths c ≡ None
      clear_still n keys paths = clear_of n keys paths (not_given keys paths)

      pub pushed_one : pushed ns c op ≡ set ns op (has ns op + 1)
      unfolding pushed
      pushed_one = rw (← is, ne_eqb op 11 no_key) refl

      pub usual : (op ≡ end → ⊥) → Usual text ns last op c
      usual no_end = record { slot = slot_told; no_key = λ e. no_key (is ∙ e); no_end = λ e. no_end (is ∙ e); clear = clear_still }

pub recast : (part text : Text) (ns₀ : List ℕ) (last at : ℕ) {ns ns' : List ℕ} {l l' p p' : ℕ} → ns ≡ ns' → l ≡ l' → p ≡ p' → Passed part text ns₀ last at ns l p → Passed part text ns₀ last at ns' l' p'
recast part text ns₀ last at a b d x = rw (← a, ← b, ← d) x

head_byte : (part : Text) (at : ℕ) → at < length part → get_or (drop at part) 0 0 ≡ get_or part at 0
head_byte part at h = rw (drop-cons part at 0 h) refl

-- what is taken behind what was taken
pub joined :
    {part text : Text} {ns₀ : List ℕ} {last₀ at : ℕ} {ns : List ℕ} {last mid : ℕ} {ns' : List ℕ} {last' to : ℕ} → Passed part text ns₀ last₀ at ns last mid → Passed part text ns last mid ns' last' to →
    Passed part text ns₀ last₀ at ns' last' to
joined x still = x
joined x (more y e u) = more (joined x y) e u

-- what holds before each command of a run
pub record Running (part text : Text) (ns₀ : List ℕ) (last₀ at op : ℕ) (ns : List ℕ) (last to : ℕ) : Type 0 where
  pub passed : Passed part text ns₀ last₀ at ns last to
  pub forth : at ≤ to
  pub follow : (not (eqb op target) || (eqb last key || eqb last target)) ≡ true
  pub unlocked : (eqb (get_or openers op 0) 0 || not (eqb (has ns (get_or openers op 0)) 0)) ≡ true
  pub size : length ns ≡ 39
  pub place : to ≤ length part

module _ (part text : Text) (ns₀ : List ℕ) (last at : ℕ) where
  module _ (op : ℕ) {most : ℕ} (may : Open ns₀ last op most) where
    w : width_of op ≡ 4
    w = may.width

    told : (f : ℕ → Bool) → T (every (λ i x. not (eqb x 4) || f i) 0 widths) → f op ≡ true
    told f t = by_width 4 f t op (small may) w

    pub run_none : length ns₀ ≡ 39 → at ≤ length part → Running part text ns₀ last at op ns₀ last at
    run_none l h =
        record {
          passed = still;
          forth = omega arith;
          follow = may.follow;
          unlocked = may.unlocked;
          size = l;
          place = h;
        }

    -- one more, which keeps its rules
    module _ {ns : List ℕ} {latest to : ℕ} (s : Running part text ns₀ last at op ns latest to)
        (long : 4 < length part - to) (byte : get_or part to 0 ≡ op) (good : good_string text (operands 4 (drop to part)) ≡ true) (left : has ns op < most) where
      cmd : Cmd
      cmd = operands 4 (drop to part)

      op_is : op ≡ cmd.op
      unfolding cmd operands
      op_is = sym (head_byte part to (omega (arith, long)) ∙ byte)

      reads : step_at part to ≡ Ok (cmd, to + 4 + 1)
      unfolding cmd
      reads = sym (step_command part to 4 (operands 4 (drop to part)) (omega (arith, long)) (sym (ap width_of byte ∙ w)) (λ e. absurd (omega (arith, e))) long refl)

      good_cmd : good_string text cmd ≡ true
      unfolding cmd
      good_cmd = good

      room : has ns op < most_of op
      room = omega (arith, left, may.limit)

      taken : Usual text ns latest op cmd
      taken =
          usual text ns latest cmd op op_is (small may) (no_eqb op flag (told (λ i. not (eqb i flag)) tt)) (no_eqb op text_option (told (λ i. not (eqb i text_option)) tt)) may.no_begin
          s.follow s.unlocked room good_cmd may.no_key (no_eqb op end (told (λ i. not (eqb i end)) tt))

      counted : pushed ns cmd op ≡ set ns op (has ns op + 1)
      counted =
          pushed_one text ns latest cmd op op_is (small may) (no_eqb op flag (told (λ i. not (eqb i flag)) tt)) (no_eqb op text_option (told (λ i. not (eqb i text_option)) tt)) may.no_begin
          s.follow s.unlocked room good_cmd may.no_key

      another : get_or openers op 0 ≡ op → ⊥
      another = no_eqb (get_or openers op 0) op (told (λ i. not (eqb (get_or openers i 0) i)) tt)

      pub run_more : Running part text ns₀ last at op (set ns op (has ns op + 1)) op (to + 5)
      run_more =
          record {
            forth = omega (arith, s.forth);
            passed = recast part text ns₀ last at counted (sym op_is) (omega arith) (more s.passed reads taken);
            follow = by_test (eqb op target) (λ e. rw e (or-true (eqb op key))) (λ e. rw e refl);
            unlocked = rw (get_or-set_other ns op (get_or openers op 0) (has ns op + 1) 0 another) s.unlocked;
            size = length-set ns op (has ns op + 1) ∙ s.size;
            place = omega (arith, long);
          }

  -- a command that comes once, by its slot
  module _ (k : ℕ) (ns : List ℕ) (nv : ns ≡ cond (eqb (has ns₀ k) 0) (set ns₀ k 1) ns₀) (x l : ℕ) (lv : l ≡ cond (eqb (has ns₀ k) 0) x last)
      (next to : ℕ) (tv : to ≡ cond (eqb (has ns₀ k) 0) next at) where
    pub once_taken : (has ns₀ k ≡ 0 → Passed part text ns₀ last at (set ns₀ k (has ns₀ k + 1)) x next) → Passed part text ns₀ last at ns l to
    once_taken f =
        by_test (eqb (has ns₀ k) 0)
        (λ y. let z = eqb-true (has ns₀ k) 0 y in recast part text ns₀ last at (rw z (sym (nv ∙ rw y refl))) (sym (lv ∙ rw y refl)) (sym (tv ∙ rw y refl)) (f z))
        (λ y. recast part text ns₀ last at (sym (nv ∙ rw y refl)) (sym (lv ∙ rw y refl)) (sym (tv ∙ rw y refl)) still)

  -- one that is a byte alone
  module _ (k : ℕ) (begun : has ns₀ begin ≡ 0 → ⊥) (h : at < length part) (is : k ≡ get_or part at 0) (alone : width_of k ≡ 0) (no_end : k ≡ end → ⊥) (first : has ns₀ k ≡ 0) where
    small_lone : k < 21
    small_lone = small_width alone

    lone : (f : ℕ → Bool) → T (every (λ i x. not (eqb x 0) || (eqb i end || f i)) 0 widths) → f k ≡ true
    lone f t = let z = by_width 0 (λ i. eqb i end || f i) t k small_lone alone in rw (ne_eqb k end no_end) at z

    lone_cmd : Cmd
    lone_cmd = operands 0 (drop at part)

    lone_op : k ≡ lone_cmd.op
    unfolding lone_cmd operands
    lone_op = is ∙ sym (head_byte part at h)

    lone_good : good_string text lone_cmd ≡ true
    unfolding good_string lone_cmd operands text_of own_rule string_rule each_of
    lone_good = rw (← lone_op, le-leb (0 + 0) (length text) (omega arith)) (lone (λ i. own_rule i []) tt)

    lone_reads : step_at part at ≡ Ok (lone_cmd, at + 0 + 1)
    unfolding lone_cmd width_of
    lone_reads =
        sym (step_command part at 0 (operands 0 (drop at part)) h (sym (ap width_of (sym is) ∙ alone))
        (λ e. absurd (omega (arith, e))) (omega (arith, h)) refl)

    unlocked_here : (eqb (get_or openers k 0) 0 || not (eqb (has ns₀ (get_or openers k 0)) 0)) ≡ true
    unlocked_here = rw (eqb-true (get_or openers k 0) begin (lone (λ i. eqb (get_or openers i 0) begin) tt), ne_eqb (has ns₀ begin) 0 begun) refl

    lone_room : has ns₀ k < most_of k
    lone_room = rw (lone (λ i. eqb (get_or limits i 0) 0) tt, first) (omega arith)

    no_such : (i : ℕ) → T (every (λ j x. not (eqb x 0) || (eqb j end || not (eqb j i))) 0 widths) → k ≡ i → ⊥
    no_such i t = no_eqb k i (lone (λ x. not (eqb x i)) t)

    lone_there : Passed part text ns₀ last at (set ns₀ k (has ns₀ k + 1)) k (at + 1)
    lone_there =
        recast part text ns₀ last at
        (pushed_one text ns₀ last lone_cmd k lone_op small_lone (no_such flag tt) (no_such text_option tt) (no_such begin tt)
        (lone (λ i. not (eqb i target) || (eqb last key || eqb last target)) tt) unlocked_here lone_room lone_good (no_such key tt))
        (sym lone_op)
        (omega arith)
        (more still lone_reads
        (usual text ns₀ last lone_cmd k lone_op small_lone (no_such flag tt) (no_such text_option tt) (no_such begin tt)
        (lone (λ i. not (eqb i target) || (eqb last key || eqb last target)) tt) unlocked_here lone_room lone_good (no_such key tt) no_end))

  pub lone_on :
      (op : ℕ) → (has ns₀ begin ≡ 0 → ⊥) → at < length part → op ≡ get_or part at 0 → width_of op ≡ 0 → (op ≡ end → ⊥) → (k : ℕ) → k ≡ op → has ns₀ k ≡ 0 →
      Passed part text ns₀ last at (set ns₀ k (has ns₀ k + 1)) op (at + 1)
  lone_on op begun h is alone no_end k e first = rw e (lone_there op begun h is alone no_end (rw e at first))

-- BEGIN stands behind a command in another slot
pub begun_set : (ns : List ℕ) (k n : ℕ) → (k ≡ begin → ⊥) → (has ns begin ≡ 0 → ⊥) → has (set ns k n) begin ≡ 0 → ⊥
begun_set ns k n other b e = b (sym (get_or-set_other ns k begin n 0 (λ q. other (sym q))) ∙ e)
