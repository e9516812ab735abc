-- The items of a record, one after the other: what a search for the next one says of the record's commands. Assumes nothing.
use mathlib.Core.Path.{◌≡◌, refl, sym, ap, ap₂, subst, ◌∙◌}
use mathlib.Core.List.{List, [], ◌∷◌, ◌++◌, map}
use mathlib.Core.Bool.{Bool, true, false, true≢false}
use Rattle.std.specs.Prelude.{Some, None, unwrap_or, is_some}
use Prim.Native.Nat.{ℕ, zero, suc, ◌+◌, ◌-◌, ◌≤◌, ◌<◌}
use native.Mathlib.Omega.{arith}
use lib.ListN.{length, drop}
use lib.Dec.{eqb, leb}
use borrow.Author.Tests.{ne_eqb, eqb-true}
use Rattle.text.specs.Bytes.{Text}
use Rattle.text.specs.Text.{some_of}
use Rattle.text.proofs.Picks.{by_test}
use Rattle.book.specs.declared.Cmd.{Cmd}
use Rattle.book.specs.declared.Stop.{Stop}
use Rattle.std.specs.Prelude.{Result, Ok, Err}
use Rattle.book.specs.declared.Stop.TheVariants.{Broken, End}
use Rattle.book.specs.Command.{Decoded, ended, broken, command, decode, decode_at, width_of, key, target, end, flag, text_option, paths}
use Rattle.book.specs.Rules.{text_of}
use Rattle.book.specs.Record.{is, is_id, only, first_of, strings, single, listed, targets_of, keys_of, mapping, option_of, flag_of}
use Rattle.book.specs.Index.{up_to_end, record_at}
use Rattle.book.specs.Steps.{step_at}
use Rattle.book.proofs.Steps.{decoded, decode_step, Moved, step_moves}
use Rattle.std.specs.Prelude.{Option}
use Rattle.std.specs.List.{find}
use Rattle.items.specs.Items.{offset_of, paired, item_to, item_by, item_of, option_item, target_item}

-- What is decoded, step by step

-- what is read of the commands from an offset on
abbrev pub read_from : Text → ℕ → Decoded
read_from s at = decode 0 at (drop at s)

pub offset_decode : (at : ℕ) (s : Text) → offset_of (decode 0 at s) ≡ at
unfolding decode decode_at offset_of
offset_decode at [] = refl
offset_decode at (x ∷ s) = by_test (eqb (width_of x) 9) (λ e. rw e refl) (λ e. by_test (leb (length (x ∷ s)) (width_of x)) (λ f. rw (e, f) refl) (λ f. rw (e, f) refl))

module _ (s : Text) where
  offset_read : (at : ℕ) → offset_of (read_from s at) ≡ at
  offset_read at = offset_decode at (drop at s)

  module _ (at : ℕ) (r : Result (Cmd × ℕ) Stop) (told : r ≡ step_at s at) where
    read_step : read_from s at ≡ decoded at at s r
    read_step = decode_step s at at ∙ ap (decoded at at s) (sym told)

    read_end : r ≡ (Err End) → read_from s at ≡ ended at
    unfolding decoded
    read_end e = read_step ∙ ap (decoded at at s) e

    read_broken : r ≡ (Err Broken) → read_from s at ≡ broken at
    unfolding decoded
    read_broken e = read_step ∙ ap (decoded at at s) e

    module _ {c : Cmd} {n : ℕ} (e : r ≡ Ok (c, n)) where
      pub read_moves : Moved s at c n
      read_moves = step_moves s at c n (sym e ∙ told)

      read_command : read_from s at ≡ command at c (read_from s n)
      unfolding decoded
      read_command =
          let z : at + (n - at) ≡ n = omega (arith, read_moves.forth) in
          read_step ∙ ap (decoded at at s) e ∙ ap (λ (k : ℕ). command at c (decode 0 k (drop n s))) z

      pub read_less : length s - n < length s - at
      read_less = omega (arith, read_moves.forth, read_moves.within)

  -- what holds of each ended or broken reading, and of a command's where it holds of what follows, holds of every reading
  module _ (P : ℕ → Decoded → Type 0) (pe : (at : ℕ) → P at (ended at)) (pb : (at : ℕ) → P at (broken at))
      (pc : (at : ℕ) (c : Cmd) (n : ℕ) → at < n → n ≤ length s → P n (read_from s n) → P at (command at c (read_from s n))) where
    by_step : (at : ℕ) (r : Result (Cmd × ℕ) Stop) → r ≡ step_at s at → ((n : ℕ) → at < n → n ≤ length s → P n (read_from s n)) → P at (read_from s at)
    by_step at (Err End) e ih = subst (P at) (sym (read_end at (Err End) e refl)) (pe at)
    by_step at (Err Broken) e ih = subst (P at) (sym (read_broken at (Err Broken) e refl)) (pb at)
    by_step at (Ok (c, n)) e ih =
        let m : Moved s at c n = read_moves at (Ok (c, n)) e refl in
        subst (P at) (sym (read_command at (Ok (c, n)) e refl)) (pc at c n m.forth m.within (ih n m.forth m.within))

    by_fuel : (k at : ℕ) → length s - at < k → P at (read_from s at)
    by_fuel zero at h = absurd (omega (arith, h))
    by_fuel (suc k) at h = by_step at (step_at s at) refl (λ n l w. by_fuel k n (omega (arith, h, l, w)))

    pub by_reading : (at : ℕ) → P at (read_from s at)
    by_reading at = by_fuel (suc (length s - at)) at (omega arith)

-- The loops' ways out

module _ (stop ok : Cmd → Bool) (s : Text) (at : ℕ) (r : Result (Cmd × ℕ) Stop) (told : r ≡ step_at s at) where
  pub item_over : {w : Stop} → r ≡ Err w → None ≡ item_to stop ok (read_from s at)
  unfolding item_to
  item_over {w} e = over w e
    where
      over : (w : Stop) → r ≡ Err w → None ≡ item_to stop ok (read_from s at)
      over End e = rw (read_end s at r told e) refl
      over Broken e = rw (read_broken s at r told e) refl

  module _ {c : Cmd} {n : ℕ} (e : r ≡ Ok (c, n)) where
    pub item_stop : stop c ≡ true → None ≡ item_to stop ok (read_from s at)
    unfolding item_to
    item_stop t = rw (read_command s at r told e, t) refl

    module _ (f : stop c ≡ false) where
      pub item_here : ok c ≡ true → Some (c, n) ≡ item_to stop ok (read_from s at)
      unfolding item_to
      item_here t = rw (read_command s at r told e, f, t) (ap (λ (k : ℕ). Some (c, k)) (sym (offset_read s n)))

      pub item_on : ok c ≡ false → item_to stop ok (read_from s at) ≡ item_to stop ok (read_from s n)
      unfolding item_to
      item_on g = rw (read_command s at r told e, f, g) refl

-- The commands before the END, in turn

module _ (s : Text) (at : ℕ) (r : Result (Cmd × ℕ) Stop) (told : r ≡ step_at s at) where
  pub paired_over : {w : Stop} → r ≡ Err w → paired (read_from s at) ≡ []
  unfolding paired
  paired_over {w} e = over w e
    where
      over : (w : Stop) → r ≡ Err w → paired (read_from s at) ≡ []
      over End e = rw (read_end s at r told e) refl
      over Broken e = rw (read_broken s at r told e) refl

  module _ {c : Cmd} {n : ℕ} (e : r ≡ Ok (c, n)) where
    pub paired_stop : eqb c.op end ≡ true → paired (read_from s at) ≡ []
    unfolding paired
    paired_stop t = rw (read_command s at r told e, t) refl

    pub paired_on : eqb c.op end ≡ false → paired (read_from s at) ≡ (c, n) ∷ paired (read_from s n)
    unfolding paired
    paired_on f = rw (read_command s at r told e, f) (ap (λ (k : ℕ). (c, k) ∷ paired (read_from s n)) (offset_read s n))

-- the first of them of which ok holds
pub found_first : (ok : Cmd → Bool) (d : Decoded) → find (λ p. ok p.0) (paired d) ≡ item_by ok d
unfolding paired item_to
found_first ok (ended at) = refl
found_first ok (broken at) = refl
found_first ok (command at c d) =
    by_test (eqb c.op end) (λ t. rw t refl)
    (λ f. by_test (ok c) (λ y. rw (f, y) refl) (λ g. rw (f, g) (found_first ok d)))

-- they are the record's commands
pub paired_all : (d : Decoded) → map (λ p. p.0) (paired d) ≡ up_to_end d
unfolding paired up_to_end
paired_all (ended at) = refl
paired_all (broken at) = refl
paired_all (command at c d) = by_test (eqb c.op end) (λ t. rw t refl) (λ f. rw f (ap (λ (r : List Cmd). c ∷ r) (paired_all d)))

-- What the next item says of the record

-- c is the first of the record's commands from `at` on of which ok holds, and next is the offset after it
pub record Got (s : Text) (ok : Cmd → Bool) (at : ℕ) (c : Cmd) (next : ℕ) : Type 0 where
  pub forth : at < next
  pub within : next ≤ length s
  pub holds : ok c ≡ true
  pub passed : List Cmd
  pub others : some_of ok passed ≡ false
  pub reads : record_at s at ≡ passed ++ (c ∷ record_at s next)

-- the same, of what is read
record GotOf (s : Text) (ok : Cmd → Bool) (at : ℕ) (d : Decoded) (c : Cmd) (next : ℕ) : Type 0 where
  forth : at < next
  within : next ≤ length s
  holds : ok c ≡ true
  passed : List Cmd
  others : some_of ok passed ≡ false
  reads : up_to_end d ≡ passed ++ (c ∷ up_to_end (read_from s next))

pub no_item : {X : Type 0} {c : Cmd} {n : ℕ} → ◌≡◌ {A = Option (Cmd × ℕ)} (Some (c, n)) None → X
no_item e = let z : ⊥ = cc in absurd z

-- what was found is one command and one offset
module _ {c k : Cmd} {n m : ℕ} (e : ◌≡◌ {A = Option (Cmd × ℕ)} (Some (c, n)) (Some (k, m))) where
  pub one_command : c ≡ k
  one_command = ap (λ (r : Option (Cmd × ℕ)). (unwrap_or r (c, n)).0) e

  pub one_offset : n ≡ m
  one_offset = ap (λ (r : Option (Cmd × ℕ)). (unwrap_or r (c, n)).1) e

module _ (ok : Cmd → Bool) where
  none_more : (k : Cmd) (xs : List Cmd) → ok k ≡ false → some_of ok xs ≡ false → some_of ok (k ∷ xs) ≡ false
  unfolding some_of
  none_more k xs f e = rw f e

  missing_of : (d : Decoded) → None ≡ item_by ok d → some_of ok (up_to_end d) ≡ false
  unfolding item_to up_to_end some_of
  missing_of (ended at) e = refl
  missing_of (broken at) e = refl
  missing_of (command at c d) e =
      by_test (eqb c.op end) (λ t. rw t refl)
      (λ f. by_test (ok c) (λ y. no_item (sym (rw (f, y) at e))) (λ g. rw (f, g) (missing_of d (rw (f, g) at e))))

  module _ (s : Text) where
    got_command : (at : ℕ) (k : Cmd) (n : ℕ) → at < n → n ≤ length s → ((c : Cmd) (next : ℕ) → Some (c, next) ≡ item_by ok (read_from s n) → GotOf s ok n (read_from s n) c next) → (c : Cmd) (next : ℕ) → Some (c, next) ≡ item_by ok (command at k (read_from s n)) → GotOf s ok at (command at k (read_from s n)) c next
    unfolding item_to up_to_end some_of
    got_command at k n l w ih c next e =
        by_test (eqb k.op end) (λ t. no_item (rw t at e))
        (λ f. by_test (ok k)
        (λ y.
        let g : ◌≡◌ {A = Option (Cmd × ℕ)} (Some (c, next)) (Some (k, offset_of (read_from s n))) = rw (f, y) at e in
        let a : c ≡ k = one_command g in
        let b : next ≡ n = one_offset g ∙ offset_read s n in
        record { forth = omega (arith, b, l); within = omega (arith, b, w); holds = ap ok a ∙ y; passed = []; others = refl; reads = rw f (ap₂ (λ (x : Cmd) (m : ℕ). x ∷ up_to_end (read_from s m)) (sym a) (sym b)) })
        (λ g.
        let h : GotOf s ok n (read_from s n) c next = ih c next (rw (f, g) at e) in
        record { forth = omega (arith, l, h.forth); within = h.within; holds = h.holds; passed = k ∷ h.passed; others = none_more k h.passed g h.others; reads = rw f (ap (λ (x : List Cmd). k ∷ x) h.reads) }))

    module _ (at : ℕ) where
      -- there is none
      pub missing : None ≡ item_by ok (read_from s at) → some_of ok (record_at s at) ≡ false
      unfolding record_at
      missing e = missing_of (read_from s at) e

      -- there is one
      pub got : (c : Cmd) (next : ℕ) → Some (c, next) ≡ item_by ok (read_from s at) → Got s ok at c next
      unfolding record_at item_to
      got c next e =
          let h : GotOf s ok at (read_from s at) c next = by_reading s (λ a d. (c : Cmd) (next : ℕ) → Some (c, next) ≡ item_by ok d → GotOf s ok a d c next) (λ a c n x. no_item x) (λ a c n x. no_item x) got_command at c next e in
          record { forth = h.forth; within = h.within; holds = h.holds; passed = h.passed; others = h.others; reads = h.reads }

-- The projections, one item at a time

module _ (ok : Cmd → Bool) where
  only_none : (r : List Cmd) → some_of ok r ≡ false → only ok r ≡ []
  unfolding only some_of
  only_none [] e = refl
  only_none (c ∷ r) e = by_test (ok c) (λ t. absurd (true≢false (rw t at e))) (λ f. rw f (only_none r (rw f at e)))

  only_skip : (xs r : List Cmd) → some_of ok xs ≡ false → only ok (xs ++ r) ≡ only ok r
  unfolding only some_of
  only_skip [] r e = refl
  only_skip (c ∷ xs) r e = by_test (ok c) (λ t. absurd (true≢false (rw t at e))) (λ f. rw f (only_skip xs r (rw f at e)))

  some_skip : (xs r : List Cmd) → some_of ok xs ≡ false → some_of ok (xs ++ r) ≡ some_of ok r
  unfolding some_of
  some_skip [] r e = refl
  some_skip (c ∷ xs) r e = by_test (ok c) (λ t. absurd (true≢false (rw t at e))) (λ f. rw f (some_skip xs r (rw f at e)))

module _ (ok : Cmd → Bool) (s : Text) (at : ℕ) where
  module _ (e : None ≡ item_by ok (read_from s at)) where
    pub only_missing : only ok (record_at s at) ≡ []
    only_missing = only_none ok (record_at s at) (missing ok s at e)

    pub first_missing : {A : Type 0} (f : Cmd → A) → first_of f (only ok (record_at s at)) ≡ None
    unfolding first_of
    first_missing f = rw only_missing refl

  module _ (c : Cmd) (next : ℕ) (e : Some (c, next) ≡ item_by ok (read_from s at)) where
    pub only_got : only ok (record_at s at) ≡ c ∷ only ok (record_at s next)
    unfolding only
    only_got = let g = got ok s at c next e in ap (only ok) g.reads ∙ only_skip ok g.passed (c ∷ record_at s next) g.others ∙ rw g.holds refl

    pub some_got : some_of ok (record_at s at) ≡ true
    unfolding some_of
    some_got = let g = got ok s at c next e in ap (some_of ok) g.reads ∙ some_skip ok g.passed (c ∷ record_at s next) g.others ∙ rw g.holds refl

    pub first_got : {A : Type 0} (f : Cmd → A) → first_of f (only ok (record_at s at)) ≡ Some (f c)
    unfolding first_of
    first_got f = rw only_got refl

-- by the command's byte
module _ (text : Text) (op : ℕ) (s : Text) (at : ℕ) where
  module _ (e : None ≡ item_of op (read_from s at)) where
    pub strings_missing : strings text op (record_at s at) ≡ []
    unfolding strings
    strings_missing = rw (only_missing (is op) s at e) refl

    pub single_missing : single text op (record_at s at) ≡ None
    unfolding single
    single_missing = first_missing (is op) s at e (text_of text)

  module _ (c : Cmd) (next : ℕ) (e : Some (c, next) ≡ item_of op (read_from s at)) where
    pub strings_got : strings text op (record_at s at) ≡ text_of text c ∷ strings text op (record_at s next)
    unfolding strings
    strings_got = rw (only_got (is op) s at c next e) refl

    pub single_got : single text op (record_at s at) ≡ Some (text_of text c)
    unfolding single
    single_got = first_got (is op) s at c next e (text_of text)

-- a list that is present or not
module _ (text : Text) (r : List Cmd) where
  module _ (mark item : ℕ) where
    pub listed_not : some_of (is mark) r ≡ false → listed text mark item r ≡ None
    unfolding listed
    listed_not f = rw f refl

    pub listed_is : some_of (is mark) r ≡ true → listed text mark item r ≡ Some (strings text item r)
    unfolding listed
    listed_is t = rw t refl

  pub mapping_not : some_of (is paths) r ≡ false → mapping text r ≡ None
  unfolding mapping
  mapping_not f = rw f refl

  pub mapping_is : some_of (is paths) r ≡ true → mapping text r ≡ Some (keys_of text r)
  unfolding mapping
  mapping_is t = rw t refl

-- by the byte and the id
module _ (id : ℕ) (s : Text) (at : ℕ) where
  pub flag_missing : None ≡ option_item flag id (read_from s at) → flag_of id (record_at s at) ≡ None
  unfolding flag_of
  flag_missing e = first_missing (is_id flag id) s at e (λ c. eqb c.value 1)

  pub flag_got : (c : Cmd) (next : ℕ) → Some (c, next) ≡ option_item flag id (read_from s at) → flag_of id (record_at s at) ≡ Some (eqb c.value 1)
  unfolding flag_of
  flag_got c next e = first_got (is_id flag id) s at c next e (λ c. eqb c.value 1)

  pub option_missing : (text : Text) → None ≡ option_item text_option id (read_from s at) → option_of text id (record_at s at) ≡ None
  unfolding option_of
  option_missing text e = first_missing (is_id text_option id) s at e (text_of text)

  pub option_got : (text : Text) (c : Cmd) (next : ℕ) → Some (c, next) ≡ option_item text_option id (read_from s at) → option_of text id (record_at s at) ≡ Some (text_of text c)
  unfolding option_of
  option_got text c next e = first_got (is_id text_option id) s at c next e (text_of text)

-- the keys
module _ (text : Text) where
  keys_none : (r : List Cmd) → some_of (is key) r ≡ false → keys_of text r ≡ []
  unfolding keys_of some_of
  keys_none [] e = refl
  keys_none (c ∷ r) e = by_test (is key c) (λ t. absurd (true≢false (rw t at e))) (λ f. rw f (keys_none r (rw f at e)))

  keys_skip : (xs r : List Cmd) → some_of (is key) xs ≡ false → keys_of text (xs ++ r) ≡ keys_of text r
  unfolding keys_of some_of
  keys_skip [] r e = refl
  keys_skip (c ∷ xs) r e = by_test (is key c) (λ t. absurd (true≢false (rw t at e))) (λ f. rw f (keys_skip xs r (rw f at e)))

  module _ (s : Text) (at : ℕ) where
    pub keys_missing : None ≡ item_of key (read_from s at) → keys_of text (record_at s at) ≡ []
    keys_missing e = keys_none (record_at s at) (missing (is key) s at e)

    pub keys_got : (c : Cmd) (next : ℕ) → Some (c, next) ≡ item_of key (read_from s at) → keys_of text (record_at s at) ≡ record { key = text_of text c; targets = targets_of text (record_at s next) } ∷ keys_of text (record_at s next)
    unfolding keys_of
    keys_got c next e = let g = got (is key) s at c next e in ap (keys_of text) g.reads ∙ keys_skip g.passed (c ∷ record_at s next) g.others ∙ rw g.holds refl

-- the targets
no_end : (c : Cmd) → is target c ≡ true → eqb c.op end ≡ false
no_end c t = ne_eqb c.op end (λ e. absurd (omega (arith, e, eqb-true c.op target t)))

-- c is the command at `at`, a target, and next is the offset after it
pub record Aimed (s : Text) (at : ℕ) (c : Cmd) (next : ℕ) : Type 0 where
  pub forth : at < next
  pub within : next ≤ length s
  pub holds : is target c ≡ true
  pub reads : record_at s at ≡ c ∷ record_at s next

record AimedOf (s : Text) (at : ℕ) (d : Decoded) (c : Cmd) (next : ℕ) : Type 0 where
  forth : at < next
  within : next ≤ length s
  holds : is target c ≡ true
  reads : up_to_end d ≡ c ∷ up_to_end (read_from s next)

module _ (s : Text) where
  aimed_command : (at : ℕ) (k : Cmd) (n : ℕ) → at < n → n ≤ length s → (c : Cmd) (next : ℕ) → Some (c, next) ≡ target_item (command at k (read_from s n)) → AimedOf s at (command at k (read_from s n)) c next
  unfolding item_to up_to_end
  aimed_command at k n l w c next e =
      by_test (is target k)
      (λ y.
      let g : ◌≡◌ {A = Option (Cmd × ℕ)} (Some (c, next)) (Some (k, offset_of (read_from s n))) = rw y at e in
      let a : c ≡ k = one_command g in
      let b : next ≡ n = one_offset g ∙ offset_read s n in
      record { forth = omega (arith, b, l); within = omega (arith, b, w); holds = ap (is target) a ∙ y; reads = rw (no_end k y) (ap₂ (λ (x : Cmd) (m : ℕ). x ∷ up_to_end (read_from s m)) (sym a) (sym b)) })
      (λ f. no_item (rw f at e))

  module _ (at : ℕ) where
    pub aimed : (c : Cmd) (next : ℕ) → Some (c, next) ≡ target_item (read_from s at) → Aimed s at c next
    unfolding record_at item_to
    aimed c next e =
        let h : AimedOf s at (read_from s at) c next = by_reading s (λ a d. (c : Cmd) (next : ℕ) → Some (c, next) ≡ target_item d → AimedOf s a d c next) (λ a c n x. no_item x) (λ a c n x. no_item x) (λ a k n l w ih. aimed_command a k n l w) at c next e in
        record { forth = h.forth; within = h.within; holds = h.holds; reads = h.reads }

module _ (text : Text) where
  targets_none : (d : Decoded) → None ≡ target_item d → targets_of text (up_to_end d) ≡ []
  unfolding item_to up_to_end targets_of
  targets_none (ended at) e = refl
  targets_none (broken at) e = refl
  targets_none (command at c d) e =
      by_test (is target c) (λ t. no_item (sym (rw t at e)))
      (λ f. by_test (eqb c.op end) (λ g. rw g refl) (λ g. rw (g, f) refl))

  module _ (s : Text) (at : ℕ) where
    pub targets_missing : None ≡ target_item (read_from s at) → targets_of text (record_at s at) ≡ []
    unfolding record_at
    targets_missing e = targets_none (read_from s at) e

    pub targets_got : (c : Cmd) (next : ℕ) → Some (c, next) ≡ target_item (read_from s at) → targets_of text (record_at s at) ≡ text_of text c ∷ targets_of text (record_at s next)
    unfolding targets_of
    targets_got c next e = let g = aimed s at c next e in ap (targets_of text) g.reads ∙ rw g.holds refl

-- Whether there is one

pub named_as_some : (op : ℕ) (s : Text) (at : ℕ) (r : Option (Cmd × ℕ)) → r ≡ item_of op (read_from s at) → is_some r ≡ some_of (is op) (record_at s at)
named_as_some op s at None i = sym (missing (is op) s at i)
named_as_some op s at (Some (c, next)) i = sym (some_got (is op) s at c next i)

-- Each search goes on behind what it found

pub target_less : (s : Text) (at : ℕ) (r : Option (Cmd × ℕ)) → r ≡ target_item (read_from s at) → (p : Cmd × ℕ) → r ≡ Some p → length s - p.1 < length s - at
target_less s at r i (c, next) e = let g = aimed s at c next (sym e ∙ i) in omega (arith, g.forth, g.within)
