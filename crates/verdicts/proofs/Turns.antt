-- The record checker's loop: what holds at each turn, and each way out of a turn. Assumes nothing.
use mathlib.Core.Path.{◌≡◌, refl, sym, ap, subst, fun_ext, ◌∙◌}
use Rattle.std.proofs.lemmas.Option.{none-some}
use Rattle.std.proofs.lemmas.Bool.{and_parts}
use mathlib.Core.List.{List, [], ◌∷◌, ◌++◌, map, reverse, reverse_aux}
use mathlib.Core.Bool.{true, false, not, cond, true≢false}
use Rattle.std.specs.Prelude.{Option, Some, None}
use Prim.Native.Nat.{ℕ, suc, ◌+◌, ◌-◌, ◌≤◌, ◌<◌}
use native.Mathlib.Omega.{arith}
use native.Mathlib.Numerals.{add-one}
use native.Mathlib.Nat.{add-zero}
use lib.ListN.{length, get_or, take, drop, replicate}
use lib.Dec.{eqb, leb}
use borrow.Author.Tests.{eq-eqb, ne_eqb, eqb-true, eqb-false, leb-false}
use Rattle.text.specs.Bytes.{Text}
use Rattle.book.specs.declared.Cmd.{Cmd}
use Rattle.book.specs.declared.Stop.{Stop}
use Rattle.std.specs.Prelude.{Result, Ok, Err}
use Rattle.book.specs.declared.Stop.TheVariants.{Broken, End}
use Rattle.book.specs.Answer.{refused, unless}
use Rattle.book.specs.Command.{command, decode, word, begin, key, end}
use Rattle.book.specs.Rules.{slot, tally, in_range, in_order, opened, fresh, openers, limits, too_many, good_string, given_before, fault_of, fault, path_of, keys_of, text_of}
use Rattle.book.specs.Record.{only, first_of, single, record_path_of}
use Rattle.book.specs.Book.{judge, next, finish}
use Rattle.book.specs.Index.{up_to_end, begins_of}
use Rattle.text.specs.Text.{some_of}
use Rattle.book.specs.declared.Seen.{Seen}
use Rattle.book.specs.State.{has, pushed, Agrees, slotted, string_at, texts, IsSeen, AllSeen, row_of, meets}
use Rattle.std.proofs.lemmas.List.{reverse-append, length-append}
use Rattle.std.proofs.lemmas.List.Elements.{All-nil, All-push}
use Rattle.book.specs.Checks.{Held, ClosedAs}
use Rattle.book.specs.Steps.{step_at}
use Rattle.book.proofs.Steps.{decoded, decode_step, Moved, step_moves, step_ends, step_begins}
use Rattle.text.proofs.Picks.{by_test}
use Rattle.faults.proofs.Keeps.{slotted_some, slot_small, true_but_for, only_begin, agree_push, agree_none, limits_small, slot_key}
use Rattle.faults.proofs.Faults.{good_within, fault_kept, fault_given}

-- what a command without a fault is
pub record Clear (text : Text) (count : ℕ → ℕ) (last n : ℕ) (keys paths : List Text) (c : Cmd) : Type 0 where
  pub order : in_order count last c ≡ true
  pub string : good_string text c ≡ true
  pub few : too_many count last c n ≡ false
  pub none_at : fault_of text count last n keys paths c ≡ None

module _ (text : Text) (count : ℕ → ℕ) (last n : ℕ) (keys paths : List Text) (c : Cmd) where
  pub clear : fault_of text count last n keys paths c ≡ None → Clear text count last n keys paths c
  unfolding fault_of
  clear z =
      by_test (in_order count last c)
      (λ a. by_test (good_string text c)
      (λ b. by_test (too_many count last c n)
      (λ d. let y : Some 5 ≡ None = rw (a, b, d) at z in absurd (none-some _ (sym y)))
      (λ d. by_test (given_before keys paths c.op (text_of text c))
      (λ f. let y : Some 6 ≡ None = rw (a, b, d, f) at z in absurd (none-some _ (sym y)))
      (λ f. record { order = a; string = b; few = d; none_at = z })))
      (λ b. let y : Some 4 ≡ None = rw (a, b) at z in absurd (none-some _ (sym y))))
      (λ a. let y : Some 3 ≡ None = rw a at z in absurd (none-some _ (sym y)))

-- what the rules of order say of a command that keeps them
module _ (count : ℕ → ℕ) (last : ℕ) (c : Cmd) (o : in_order count last c ≡ true) where
  pub was_opened : opened count last c ≡ true
  unfolding in_order
  was_opened = (and_parts (opened count last c) _ (and_parts (in_range c) _ o).1).0

  was_fresh : fresh count last c ≡ true
  unfolding in_order
  was_fresh = (and_parts (fresh count last c) _ (and_parts (opened count last c) _ (and_parts (in_range c) _ o).1).1).0

  -- the first command of a record is its BEGIN
  first_begins : c.op < 21 → ((k : ℕ) → count k ≡ 0) → c.op ≡ begin
  unfolding opened
  first_begins h z = only_begin c.op h (eqb-true (get_or openers c.op 0) 0 (true_but_for (eqb (get_or openers c.op 0) 0) (not (eqb (count (get_or openers c.op 0)) 0)) was_opened (rw (z (get_or openers c.op 0)) refl)))

  -- a BEGIN is the first
  begin_first : c.op ≡ begin → count begin ≡ 0
  unfolding fresh slot
  begin_first e = eqb-true (count begin) 0 (let w : eqb (count begin) 0 ≡ true = rw e at was_fresh in w)

  -- an END is the first
  pub end_first : c.op ≡ end → count end ≡ 0
  unfolding fresh slot
  end_first e = eqb-true (count end) 0 (let w : eqb (count end) 0 ≡ true = rw e at was_fresh in w)

  pub count_small : (n : ℕ) → c.op < 21 → too_many count last c n ≡ false → count (slot c) < 255
  unfolding fresh too_many
  count_small n h f =
      by_test (eqb (get_or limits c.op 0) 0)
      (λ e. let w : eqb (count (slot c)) 0 ≡ true = rw e at was_fresh in omega (arith, eqb-true (count (slot c)) 0 w))
      (λ e. by_test (eqb c.op begin)
      (λ g. let q : c.op ≡ begin = eqb-true c.op begin g in let z : true ≡ false = rw q at e in absurd (true≢false z))
      (λ g. let w : leb (get_or limits c.op 0) (count (slot c)) ≡ false = rw (g, e) at f in omega (arith, leb-false (get_or limits c.op 0) (count (slot c)) w, limits_small c.op h)))

  begin_few : (n : ℕ) → c.op ≡ begin → too_many count last c n ≡ false → n < 64
  unfolding too_many
  begin_few n e f = let w : leb 64 n ≡ false = rw e at f in leb-false 64 n w

  pub keys_few : (n : ℕ) → c.op ≡ key → too_many count last c n ≡ false → count key < 32
  unfolding too_many slot
  keys_few n e f = let w : leb 32 (count key) ≡ false = rw e at f in leb-false 32 (count key) w

-- the byte of a record's first command, the commands given newest first
unfoldable pub first_op : List Cmd → ℕ
first_op [] = 0
first_op (c ∷ []) = c.op
first_op (c ∷ d ∷ ds) = first_op (d ∷ ds)

-- a record that begins with its BEGIN has that one's string for its path
path_named : (text : Text) (here rest : List Cmd) → 0 < length here → first_op here ≡ begin → record_path_of text (reverse_aux here rest) ≡ path_of text here
unfolding first_op record_path_of single only first_of path_of
path_named text [] rest h e = absurd (omega (arith, h))
path_named text (c ∷ []) rest h e = rw (eq-eqb c.op begin e) refl
path_named text (c ∷ d ∷ ds) rest h e = path_named text (d ∷ ds) (c ∷ rest) (omega arith) e

-- the offset of the open record's BEGIN, if one is open, before those that follow
unfoldable pub begun_at : List Cmd → ℕ → List ℕ → List ℕ
begun_at [] base l = l
begun_at (c ∷ here) base l = base ∷ l

-- a row more
pub texts_more : (text : Text) (rows : List Seen) (r : Seen) → texts text (rows ++ r ∷ []) ≡ string_at text r ∷ texts text rows
unfolding texts
texts_more text rows r = ap (map (string_at text)) (reverse-append rows (r ∷ []))

module _ (part : Text) (base : ℕ) (text : Text) (rows : List Seen) where
  pub record Sofar (ns : List ℕ) (last : ℕ) (ks : List Seen) (at : ℕ) : Type 0 where
    pub here : List Cmd
    pub agrees : Agrees ns last here
    pub keys : keys_of text here ≡ texts text ks
    pub seen : AllSeen text ks
    pub count : has ns key ≡ length ks
    pub path : 0 < length here → (path_of text here ≡ take (word part 3) (drop (word part 1) text)) × ((word part 1 + word part 3 ≤ length text) × (4 < length part))
    pub few : 0 < length here → length rows < 64
    pub begun : length here ≡ 0 → at ≡ 0
    pub lead : (length here ≡ 0 → ⊥) → tally begin here ≡ 0 → ⊥
    pub place : at ≤ length part
    pub whole :
        (records : List (List Cmd)) → Held text rows records →
        judge text (record { records = records; here = [] }) (decode 0 base part) ≡ judge text (record { records = records; here = here }) (decode 0 (base + at) (drop at part))
    pub reads : up_to_end (decode 0 base part) ≡ reverse_aux here (up_to_end (decode 0 (base + at) (drop at part)))
    pub led : 0 < length here → first_op here ≡ begin
    pub begins : begins_of (decode 0 base part) ≡ begun_at here base (begins_of (decode 0 (base + at) (drop at part)))

  module _ {ns : List ℕ} {last : ℕ} {ks : List Seen} {at : ℕ} (s : Sofar ns last ks at) {o : Result (Cmd × ℕ) Stop} (is : o ≡ step_at part at) where
    turned : (records : List (List Cmd)) → Held text rows records → judge text (record { records = records; here = [] }) (decode 0 base part) ≡ judge text (record { records = records; here = s.here }) (decoded (base + at) at part o)
    turned r h = s.whole r h ∙ ap (judge text (record { records = r; here = s.here })) (decode_step part at (base + at) ∙ ap (decoded (base + at) at part) (sym is))

    pub turn_broken : o ≡ (Err Broken) → (records : List (List Cmd)) → Held text rows records → judge text (record { records = records; here = [] }) (decode 0 base part) ≡ refused 2 (base + at)
    unfolding judge decoded
    turn_broken e r h = turned r h ∙ ap (λ (x : Result (Cmd × ℕ) Stop). judge text (record { records = r; here = s.here }) (decoded (base + at) at part x)) e

    -- at the end of the commands a record is open
    pub turn_end : 0 < length part → o ≡ (Err End) → (records : List (List Cmd)) → Held text rows records → judge text (record { records = records; here = [] }) (decode 0 base part) ≡ refused 2 (base + at)
    unfolding judge decoded finish
    turn_end l e r h =
        turned r h ∙ ap (λ (x : Result (Cmd × ℕ) Stop). judge text (record { records = r; here = s.here }) (decoded (base + at) at part x)) e
        ∙ rw (ne_eqb (length s.here) 0 (λ z. absurd (omega (arith, l, s.begun z, step_ends part at (sym e ∙ is))))) refl

    -- no command is read
    pub turn_stopped : 0 < length part → (w : Stop) → o ≡ Err w → (records : List (List Cmd)) → Held text rows records → judge text (record { records = records; here = [] }) (decode 0 base part) ≡ refused 2 (base + at)
    turn_stopped l Broken e = turn_broken e
    turn_stopped l End e = turn_end l e

    module _ {c : Cmd} {nx : ℕ} (e : o ≡ Ok (c, nx)) where
      moved : Moved part at c nx
      moved = step_moves part at c nx (sym e ∙ is)

      pub byte_known : c.op < 21
      byte_known = moved.byte

      place : base + at + (nx - at) ≡ base + nx
      place = omega (arith, moved.forth)

      -- the command at the head of what is left
      headed : decode 0 (base + at) (drop at part) ≡ command (base + at) c (decode 0 (base + nx) (drop nx part))
      unfolding decoded
      headed =
          decode_step part at (base + at) ∙ ap (decoded (base + at) at part) (sym is ∙ e)
          ∙ ap (λ (p : ℕ). command (base + at) c (decode 0 p (drop nx part))) place

      same_fault : (r : List (List Cmd)) → Held text rows r → fault text (record { records = r; here = s.here }) c ≡ fault_of text (has ns) last (length rows) (texts text ks) (texts text rows) c
      unfolding fault
      same_fault r h =
          rw (h.size, h.paths, s.keys, ← s.agrees.byte)
          (ap (λ (f : ℕ → ℕ). fault_of text f last (length rows) (texts text ks) (texts text rows) c) (fun_ext (λ k. sym (s.agrees.each k))))

      judged : (r : List (List Cmd)) → Held text rows r → judge text (record { records = r; here = [] }) (decode 0 base part)
          ≡ unless (fault_of text (has ns) last (length rows) (texts text ks) (texts text rows) c) (base + at) (λ b. judge text b (decode 0 (base + at + (nx - at)) (drop nx part))) (next (record { records = r; here = s.here }) c)
      unfolding judge decoded
      judged r h =
          turned r h ∙ ap (λ (x : Result (Cmd × ℕ) Stop). judge text (record { records = r; here = s.here }) (decoded (base + at) at part x)) e
          ∙ ap (λ (f : Option ℕ). unless f (base + at) (λ b. judge text b (decode 0 (base + at + (nx - at)) (drop nx part))) (next (record { records = r; here = s.here }) c)) (same_fault r h)

      pub turn_fault : (f : ℕ) → fault_of text (has ns) last (length rows) (texts text ks) (texts text rows) c ≡ Some f → (records : List (List Cmd)) → Held text rows records → judge text (record { records = records; here = [] }) (decode 0 base part) ≡ refused f (base + at)
      turn_fault f d r h =
          judged r h ∙ ap (λ (f : Option ℕ). unless f (base + at) (λ b. judge text b (decode 0 (base + at + (nx - at)) (drop nx part))) (next (record { records = r; here = s.here }) c)) d

      module _ (d : fault_of text (has ns) last (length rows) (texts text ks) (texts text rows) c ≡ None) where
        pub is_clear : Clear text (has ns) last (length rows) (texts text ks) (texts text rows) c
        is_clear = clear text (has ns) last (length rows) (texts text ks) (texts text rows) c d

        went : (r : List (List Cmd)) → Held text rows r → judge text (record { records = r; here = [] }) (decode 0 base part) ≡ judge text (next (record { records = r; here = s.here }) c) (decode 0 (base + nx) (drop nx part))
        went r h =
            judged r h ∙ ap (λ (f : Option ℕ). unless f (base + at) (λ b. judge text b (decode 0 (base + at + (nx - at)) (drop nx part))) (next (record { records = r; here = s.here }) c)) is_clear.none_at
            ∙ ap (λ (p : ℕ). judge text (next (record { records = r; here = s.here }) c) (decode 0 p (drop nx part))) place

        begins : length s.here ≡ 0 → c.op ≡ begin
        unfolding tally
        begins y = first_begins (has ns) last c is_clear.order moved.byte (λ k. s.agrees.each k ∙ empty s.here y k)
          where
            empty : (l : List Cmd) → length l ≡ 0 → (k : ℕ) → tally k l ≡ 0
            empty [] y k = refl
            empty (x ∷ l) y k = absurd (omega (arith, y))

        begin_only : (length s.here ≡ 0 → ⊥) → c.op ≡ begin → ⊥
        begin_only y x = s.lead y (sym (s.agrees.each begin) ∙ begin_first (has ns) last c is_clear.order x)

        reads_end : c.op ≡ end → up_to_end (decode 0 base part) ≡ reverse s.here
        unfolding up_to_end
        reads_end q = s.reads ∙ rw (headed, eq-eqb _ _ q) refl

        reads_on : (c.op ≡ end → ⊥) → up_to_end (decode 0 base part) ≡ reverse_aux (c ∷ s.here) (up_to_end (decode 0 (base + nx) (drop nx part)))
        unfolding up_to_end
        reads_on q = s.reads ∙ rw (headed, ne_eqb _ _ q) refl

        led_on : (l : List Cmd) → l ≡ s.here → first_op (c ∷ l) ≡ begin
        unfolding first_op
        led_on [] y = begins (ap length (sym y))
        led_on (d ∷ ds) y = subst (λ (l : List Cmd). first_op l ≡ begin) (sym y) (s.led (omega (arith, ap length y)))

        begins_on : (l : List Cmd) → l ≡ s.here → begins_of (decode 0 base part) ≡ base ∷ begins_of (decode 0 (base + nx) (drop nx part))
        unfolding begins_of begun_at
        begins_on [] y =
            let z : at ≡ 0 = s.begun (ap length (sym y)) in
            s.begins ∙ rw (← y, headed, eq-eqb c.op begin (begins (ap length (sym y))), z, add-zero base) refl
        begins_on (d ∷ ds) y =
            s.begins ∙ rw (← y, headed, ne_eqb c.op begin (begin_only (λ v. absurd (omega (arith, v, ap length y))))) refl

        -- a record that ends has begun
        opened_here : c.op ≡ end → 0 < length s.here
        opened_here q = some_here s.here (λ y. absurd (omega (arith, q, begins y)))
          where
            some_here : (l : List Cmd) → (length l ≡ 0 → ⊥) → 0 < length l
            some_here [] h = absurd (h refl)
            some_here (x ∷ l) h = omega arith

        pub turn_long : c.op ≡ end → 4 < length part
        turn_long q = (s.path (opened_here q)).1.1

        closed_here : c.op ≡ end → ClosedAs part base text rows (base + nx) (word part 1) (word part 3)
        unfolding next
        closed_here q =
            let l : 0 < length s.here = opened_here q in
            record {
              closed = s.here;
              path = (s.path l).0;
              within = (s.path l).1.0;
              few = s.few l;
              moves = (omega (arith, moved.forth), omega (arith, moved.within));
              whole = λ r h. went r h ∙ rw (eq-eqb _ _ q) (ap (λ (k : ℕ). judge text (record { records = s.here ∷ r; here = [] }) (decode 0 (base + nx) (drop k part))) back);
              reads = reads_end q;
              named = path_named text s.here [] l (s.led l) ∙ (s.path l).0;
              begun = begins_on s.here refl ∙ ap (λ (k : ℕ). base ∷ begins_of (decode 0 (base + nx) (drop k part))) back;
            }
          where
            back : nx ≡ base + nx - base
            back = omega arith

        pub turn_closed : c.op ≡ end → (start len : ℕ) → start ≡ word part 1 → len ≡ word part 3 → ClosedAs part base text rows (base + nx) start len
        turn_closed q start len a b = rw (a, b) (closed_here q)

        module _ {k : ℕ} (sl : slotted c ≡ Some k) where
          pub turn_slot : k < 39
          turn_slot = slot_small c moved.byte sl

          slot_is : k ≡ slot c
          slot_is = (slotted_some c sl).1

          pub slot_room : has ns k < 255
          slot_room = subst (λ (j : ℕ). has ns j < 255) (sym slot_is) (count_small (has ns) last c is_clear.order (length rows) moved.byte is_clear.few)

          within_text : c.start + c.len ≤ length text
          within_text = good_within text c is_clear.string

          agrees_on : Agrees (pushed ns c k) c.op (c ∷ s.here)
          agrees_on = subst (λ (j : ℕ). Agrees (pushed ns c j) c.op (c ∷ s.here)) (sym slot_is) (agree_push ns last c s.here s.agrees (subst (λ (j : ℕ). j < 39) slot_is turn_slot))

          module _ (ks' : List Seen) where
            record Keyed : Type 0 where
              keys : keys_of text (c ∷ s.here) ≡ texts text ks'
              seen : AllSeen text ks'
              more : length ks' ≡ cond (eqb c.op key) (suc (has ns key)) (has ns key)

            module _ (ak : ks' ≡ cond (eqb c.op key) (ks ++ row_of text c ∷ []) ks) where
              keyed : Keyed
              unfolding keys_of text_of
              keyed =
                  by_test (eqb c.op key)
                  (λ y.
                  rw (ak, y)
                  record {
                    keys = rw y (ap (λ (l : List Text). take c.len (drop c.start text) ∷ l) s.keys ∙ sym (texts_more text ks (row_of text c)));
                    seen = All-push (IsSeen text) ks (row_of text c) s.seen (record { within = within_text; marked = refl });
                    more = rw y (length-append ks (row_of text c ∷ []) ∙ add-one (length ks) ∙ ap suc (sym s.count));
                  })
                  (λ y. rw (ak, y) record { keys = rw y s.keys; seen = s.seen; more = rw y (sym s.count) })

              count_on : has (pushed ns c k) key ≡ length ks'
              unfolding tally
              count_on =
                  sym (keyed.more
                  ∙ by_test (eqb c.op key)
                  (λ y. rw y (ap suc (s.agrees.each key) ∙ sym (agrees_on.each key ∙ rw (slot_key c, y) refl)))
                  (λ y. rw y (s.agrees.each key ∙ sym (agrees_on.each key ∙ rw (slot_key c, y) refl))))

              begin_slot : c.op ≡ begin → slot c ≡ begin
              unfolding slot
              begin_slot y = rw y refl

              lead_on : tally begin (c ∷ s.here) ≡ 0 → ⊥
              unfolding tally
              lead_on y =
                  by_test (eqb (slot c) begin)
                  (λ a. let x : suc (tally begin s.here) ≡ 0 = rw a at y in omega (arith, x))
                  (λ a. by_test (eqb (slot c) key)
                  (λ b. let x : tally begin s.here ≡ 0 = rw (a, b) at y in rest a x)
                  (λ b. let x : tally begin s.here ≡ 0 = rw (a, b) at y in rest a x))
                where
                  rest : eqb (slot c) begin ≡ false → tally begin s.here ≡ 0 → ⊥
                  rest a x = s.lead (λ z. eqb-false (slot c) begin a (begin_slot (begins z))) x

              path_on : (l : List Cmd) → l ≡ s.here → (path_of text (c ∷ l) ≡ take (word part 3) (drop (word part 1) text)) × ((word part 1 + word part 3 ≤ length text) × (4 < length part))
              unfolding path_of text_of
              path_on [] y =
                  let b = step_begins part c nx (sym e ∙ is ∙ ap (step_at part) (s.begun (ap length (sym y)))) (begins (ap length (sym y))) in
                  rw (← b.start, ← b.len) (refl, (within_text, b.long))
              path_on (d ∷ ds) y =
                  subst (λ (l : List Cmd). (path_of text l ≡ take (word part 3) (drop (word part 1) text)) × ((word part 1 + word part 3 ≤ length text) × (4 < length part))) (sym y) (s.path (omega (arith, ap length y)))

              few_on : (l : List Cmd) → l ≡ s.here → length rows < 64
              few_on [] y = begin_few (has ns) last c is_clear.order (length rows) (begins (ap length (sym y))) is_clear.few
              few_on (d ∷ ds) y = s.few (omega (arith, ap length y))

              turn_here : (c.op ≡ end → ⊥) → Sofar (pushed ns c k) c.op ks' nx
              unfolding next begun_at
              turn_here q =
                  record {
                    here = c ∷ s.here;
                    agrees = agrees_on;
                    keys = keyed.keys;
                    seen = keyed.seen;
                    count = count_on;
                    path = λ h. path_on s.here refl;
                    few = λ h. few_on s.here refl;
                    begun = λ h. absurd (omega (arith, h));
                    lead = λ h. lead_on;
                    place = moved.within;
                    whole = λ r h. went r h ∙ rw (ne_eqb c.op end q) refl;
                    reads = reads_on q;
                    led = λ h. led_on s.here refl;
                    begins = begins_on s.here refl;
                  }

              pub turn_on : (c.op ≡ end → ⊥) → (ns' : List ℕ) → ns' ≡ pushed ns c k → (last' : ℕ) → last' ≡ c.op → Sofar ns' last' ks' nx
              turn_on q ns' y last' z = rw (y, z) (turn_here q)

        pub turn_less : length part - nx < length part - at
        turn_less = omega (arith, moved.forth, moved.within)

      -- what is wrong with the command but for the keys before it
      pub turn_refused : (f : ℕ) → fault_of text (has ns) last (length rows) [] (texts text rows) c ≡ Some f → (records : List (List Cmd)) → Held text rows records → judge text (record { records = records; here = [] }) (decode 0 base part) ≡ refused f (base + at)
      turn_refused f d = turn_fault f (fault_kept text (has ns) last (length rows) (texts text ks) (texts text rows) c f d)

      module _ (d : fault_of text (has ns) last (length rows) [] (texts text rows) c ≡ None) where
        given : fault_of text (has ns) last (length rows) (texts text ks) (texts text rows) c ≡ cond (cond (eqb c.op key) (some_of (meets false (text_of text c)) (texts text ks)) false) (Some 6) None
        given = fault_given text (has ns) last (length rows) (texts text ks) (texts text rows) c d

        -- a key given before
        pub turn_met : c.op ≡ key → some_of (meets false (text_of text c)) (texts text ks) ≡ true → (records : List (List Cmd)) → Held text rows records → judge text (record { records = records; here = [] }) (decode 0 base part) ≡ refused 6 (base + at)
        turn_met k g = turn_fault 6 (given ∙ rw (eq-eqb _ _ k, g) refl)

        -- any other command
        pub clear_on : (c.op ≡ key → ⊥) → fault_of text (has ns) last (length rows) (texts text ks) (texts text rows) c ≡ None
        clear_on k = given ∙ rw (ne_eqb _ _ k) refl

  -- before the first command
  pub sofar_none : (ns : List ℕ) (last : ℕ) (ks : List Seen) → ns ≡ replicate 39 0 → last ≡ 0 → ks ≡ [] → Sofar ns last ks 0
  unfolding keys_of texts begun_at
  sofar_none ns last ks e f z =
      record {
        here = [];
        agrees = agree_none ns last e f;
        keys = rw z refl;
        seen = rw z (All-nil (IsSeen text));
        count = ap (λ (l : List ℕ). get_or l 11 0) e ∙ sym (ap length z);
        path = λ h. absurd (omega (arith, h));
        few = λ h. absurd (omega (arith, h));
        begun = λ h. refl;
        lead = λ h z. h refl;
        place = omega arith;
        whole = λ r h. ap (λ (p : ℕ). judge text (record { records = r; here = [] }) (decode 0 p part)) (sym (add-zero base));
        reads = ap (λ (p : ℕ). up_to_end (decode 0 p part)) (sym (add-zero base));
        led = λ h. absurd (omega (arith, h));
        begins = ap (λ (p : ℕ). begins_of (decode 0 p part)) (sym (add-zero base));
      }
