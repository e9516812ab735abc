-- What rows say: the row of a record by itself is the record as parsed, and merged rows are the merged configs. Assumes nothing.
use mathlib.Core.Path.{◌≡◌, refl, sym, ap, ap₂, ◌∙◌}
use mathlib.Core.List.{List}
use mathlib.Core.Bool.{Bool, true, false, cond, true≢false}
use Rattle.std.specs.Prelude.{Option, Some, None, option_map, unwrap_or}
use Prim.Native.Nat.{ℕ, ◌≤◌, ◌<◌}
use native.Mathlib.Omega.{arith}
use lib.Dec.{eqb, ltb}
use lib.ListN.{length, get_or, length-set, get_or-eq_default}
use lib.Seq.{get_or-set_same, get_or-set_other}
use borrow.Author.Tests.{eqb-true, eqb-false, eq-eqb, ne_eqb, ltb-true, ltb-false}
use Rattle.text.specs.Bytes.{Text}
use Rattle.path.specs.Path.{is_some}
use Rattle.ends.specs.Ends.{parent_of}
use Rattle.text.proofs.Picks.{by_test}
use Rattle.book.specs.declared.Cmd.{Cmd}
use Rattle.book.specs.Record.{record_path_of}
use Rattle.book.specs.Index as index
use Rattle.book.specs.Sound.{Sound}
use Rattle.tsconfig.specs.Config.{Field, base_url, paths, merge, ◌or_else◌, base_if}
use Rattle.tsconfig.specs.Parsed.{Parsed, parsed, parse, said, placed_value}
use Rattle.tsconfig_resolver.specs.Find.{record_at, seen, blank}
use Rattle.book.specs.Index.{begin_of}
use Rattle.book.specs.declared.IndexRow.{IndexRow}
use Rattle.rows.specs.Rows.{absent, slot, base_place, supplier, number_of, config_of, Row}
use Rattle.rows.specs.Records.{records_of, Records}
use Rattle.rows.specs.Own.{OwnRow}
use Rattle.rows.specs.Merge.{nearer, base_by, merged_to, merged_row}
use Rattle.rows.proofs.Names.{said_names, said_none, slot_split}
use Rattle.rows.proofs.Merge.{merged_length, merged_above, merged_below}

some_map : {A B : Type 0} (g : A → B) (o : Option A) → is_some (option_map g o) ≡ is_some o
unfolding is_some
some_map g None = refl
some_map g (Some a) = refl

none_is : {A : Type 0} (o : Option A) → is_some o ≡ false → o ≡ None
unfolding is_some
none_is None e = refl
none_is (Some a) e = absurd (true≢false e)

-- Where there is no record

-- there are fewer records than 255
module _ (rs : List Parsed) (few : length rs ≤ 64) where
  no_record : record_at rs absent ≡ blank
  no_record = get_or-eq_default rs blank (omega (arith, few))

  no_value : (f : Field) → ((seen rs).own absent).named f ≡ None
  no_value f = ap (λ (p : Parsed). option_map (λ v. record { value = v; by = absent }) (p.says f)) no_record

  none_named : (f : Field) (c : ℕ) → c ≡ absent → ((seen rs).own c).named f ≡ None
  none_named f c e = ap (λ (k : ℕ). ((seen rs).own k).named f) e ∙ no_value f

-- a record that says something is there
pub there : (rs : List Parsed) (c : ℕ) (f : Field) → is_some ((record_at rs c).says f) ≡ true → c < length rs
unfolding is_some
there rs c f e =
    by_test (ltb c (length rs)) (λ y. ltb-true c (length rs) y)
    (λ y. absurd (true≢false (sym e ∙ ap (λ (p : Parsed). is_some (p.says f)) (get_or-eq_default rs blank (ltb-false c (length rs) y)))))

-- a row of 28 has nothing behind its end
behind : (row : List ℕ) (k : ℕ) → length row ≡ 28 → k ≡ 28 → get_or row k absent ≡ absent
behind row k l e = get_or-eq_default row absent (omega (arith, l, e))

-- The row of a record by itself

module _ (text : Text) (c : ℕ) (r : List Cmd) (row : List ℕ) (sound : Sound text r) (o : OwnRow c r row) where
  own_supplier : (f : Field) → supplier row f ≡ cond (is_some (said text r f)) c absent
  own_supplier f =
      slot_split f
      (λ h. o.fields (slot f) h ∙ ap (λ (b : Bool). cond b c absent) (sym (said_names text r f h)))
      (λ e. behind row (slot f) o.long e ∙ ap (λ (b : Bool). cond b c absent) (sym (said_none text r sound.each f (omega (arith, e)))))

module _ (rs : List Parsed) (few : length rs ≤ 64) (text : Text) (c : ℕ) (h : c < length rs) (r : List Cmd) (reads : record_at rs c ≡ parsed text r) (sound : Sound text r) (row : List ℕ) (o : OwnRow c r row) where
  says_some : (f : Field) → is_some ((record_at rs c).says f) ≡ is_some (said text r f)
  unfolding parsed parse
  says_some f = ap (λ (p : Parsed). is_some (p.says f)) reads ∙ some_map (placed_value (parent_of (record_path_of text r)) f) (said text r f)

  own_named : (f : Field) → ((seen rs).own (supplier row f)).named f ≡ ((seen rs).own c).named f
  own_named f =
      by_test (is_some (said text r f))
      (λ y. ap (λ (k : ℕ). ((seen rs).own k).named f) (own_supplier text c r row sound o f ∙ ap (λ (b : Bool). cond b c absent) y))
      (λ y.
      none_named rs few f (supplier row f) (own_supplier text c r row sound o f ∙ ap (λ (b : Bool). cond b c absent) y)
      ∙ sym (ap (option_map (λ v. record { value = v; by = c })) (none_is ((record_at rs c).says f) (says_some f ∙ y))))

  own_config_of : config_of rs row ≡ (seen rs).own c
  unfolding config_of
  own_config_of = λ i. record { named = λ f. own_named f i; base = ((seen rs).own (o.base i)).base }

  own_row_of : Row rs row
  own_row_of = record {
    long = o.long;
    named = λ f n. by_test (is_some (said text r f))
        (λ y.
        let e : supplier row f ≡ c = own_supplier text c r row sound o f ∙ ap (λ (b : Bool). cond b c absent) y in
        ap (λ (k : ℕ). is_some ((record_at rs k).says f)) e ∙ says_some f ∙ y)
        (λ y. absurd (n (own_supplier text c r row sound o f ∙ ap (λ (b : Bool). cond b c absent) y)));
    base = omega (arith, o.base, h);
    own = omega (arith, o.own, h);
  }

module _ (commands text : Text) (rows : List IndexRow) (b : Records commands text rows) (c : ℕ) (h : c < length (records_of commands text)) (row : List ℕ) (o : OwnRow c (index.record_at commands (begin_of rows c)) row) where
  -- the row of a record by itself is the record as parsed
  pub own_config : config_of (records_of commands text) row ≡ (seen (records_of commands text)).own c
  own_config = own_config_of (records_of commands text) b.few text c h (index.record_at commands (begin_of rows c)) (b.reads c h) (b.sound c h) row o

  pub own_row : Row (records_of commands text) row
  own_row = own_row_of (records_of commands text) b.few text c h (index.record_at commands (begin_of rows c)) (b.reads c h) (b.sound c h) row o

pub own_number : (c : ℕ) (r : List Cmd) (row : List ℕ) → OwnRow c r row → number_of row ≡ c
own_number c r row o = o.own

-- Merged rows

-- the base rule over tests: r, s that the nearer and the other lack baseUrl, t that the nearer lacks paths
base_rule :
    {X : Type 0} (g : ℕ → X) (r s t : Bool) (x y : ℕ) →
    g (cond r (cond s (cond t y x) y) x)
    ≡ unwrap_or (cond r None (Some (g x)) or_else cond s None (Some (g y))) (unwrap_or (cond t None (Some (g x))) (g y))
base_rule g false s t x y = refl
base_rule g true false t x y = refl
base_rule g true true false x y = refl
base_rule g true true true x y = refl

module _ (rs : List Parsed) (few : length rs ≤ 64) where
  module _ (row : List ℕ) (w : Row rs row) where
    named_some : (f : Field) → is_some ((config_of rs row).named f) ≡ cond (eqb (supplier row f) absent) false true
    unfolding config_of is_some
    named_some f =
        by_test (eqb (supplier row f) absent)
        (λ y. ap is_some (none_named rs few f (supplier row f) (eqb-true (supplier row f) absent y)) ∙ sym (ap (λ (b : Bool). cond b false true) y))
        (λ y. some_map (λ v. record { value = v; by = supplier row f }) ((record_at rs (supplier row f)).says f) ∙ w.named f (eqb-false (supplier row f) absent y) ∙ sym (ap (λ (b : Bool). cond b false true) y))

    map_if : {A B : Type 0} (x : B) (b : Bool) (o : Option A) → is_some o ≡ cond b false true → option_map (λ v. x) o ≡ cond b None (Some x)
    unfolding is_some
    map_if x true None e = refl
    map_if x false None e = absurd (true≢false (sym e))
    map_if x true (Some a) e = absurd (true≢false e)
    map_if x false (Some a) e = refl

    base_if_lem : (f : Field) → base_if f (config_of rs row) ≡ cond (eqb (supplier row f) absent) None (Some ((seen rs).own (get_or row base_place absent)).base)
    unfolding config_of
    base_if_lem f = map_if ((seen rs).own (get_or row base_place absent)).base (eqb (supplier row f) absent) ((config_of rs row).named f) (named_some f)

  module _ (a b : List ℕ) (v : Row rs a) (w : Row rs b) where
    merged_long : length (merged_row a b) ≡ 28
    unfolding merged_row
    merged_long = length-set (merged_to 26 a b) 26 (base_by (get_or a 3 absent) (get_or b 3 absent) (get_or a 4 absent) (get_or a base_place absent) (get_or b base_place absent)) ∙ merged_length a b 26 ∙ v.long

    merged_place : (k : ℕ) → k < 26 → get_or (merged_row a b) k absent ≡ nearer (get_or a k absent) (get_or b k absent)
    unfolding merged_row
    merged_place k h = get_or-set_other (merged_to 26 a b) 26 k (base_by (get_or a 3 absent) (get_or b 3 absent) (get_or a 4 absent) (get_or a base_place absent) (get_or b base_place absent)) absent (λ q. omega (arith, q, h)) ∙ merged_below a b 26 k (omega (arith, v.long)) h

    merged_base : get_or (merged_row a b) 26 absent ≡ base_by (get_or a 3 absent) (get_or b 3 absent) (get_or a 4 absent) (get_or a base_place absent) (get_or b base_place absent)
    unfolding merged_row
    merged_base = get_or-set_same (merged_to 26 a b) 26 (base_by (get_or a 3 absent) (get_or b 3 absent) (get_or a 4 absent) (get_or a base_place absent) (get_or b base_place absent)) absent (omega (arith, merged_length a b 26, v.long))

    -- it stays the row of its own record
    pub merge_number : number_of (merged_row a b) ≡ number_of a
    unfolding merged_row
    merge_number = get_or-set_other (merged_to 26 a b) 26 27 (base_by (get_or a 3 absent) (get_or b 3 absent) (get_or a 4 absent) (get_or a base_place absent) (get_or b base_place absent)) absent (λ q. omega (arith, q)) ∙ merged_above a b 26 27 (omega arith)

    merged_supplier : (f : Field) → supplier (merged_row a b) f ≡ nearer (supplier a f) (supplier b f)
    unfolding nearer
    merged_supplier f =
        slot_split f (merged_place (slot f))
        (λ e. behind (merged_row a b) (slot f) merged_long e ∙ sym (rw (eq-eqb (supplier a f) absent (behind a (slot f) v.long e)) (behind b (slot f) w.long e)))

    merged_none : (f : Field) → supplier a f ≡ absent → supplier (merged_row a b) f ≡ supplier b f
    unfolding nearer
    merged_none f e = merged_supplier f ∙ ap (λ (t : Bool). cond t (supplier b f) (supplier a f)) (eq-eqb (supplier a f) absent e)

    merged_own : (f : Field) → (supplier a f ≡ absent → ⊥) → supplier (merged_row a b) f ≡ supplier a f
    unfolding nearer
    merged_own f n = merged_supplier f ∙ ap (λ (t : Bool). cond t (supplier b f) (supplier a f)) (ne_eqb (supplier a f) absent n)

    first_is : {A : Type 0} (o p : Option A) → is_some o ≡ true → o ≡ o or_else p
    unfolding is_some
    first_is None p e = absurd (true≢false (sym e))
    first_is (Some x) p e = refl

    merged_named : (f : Field) → (config_of rs (merged_row a b)).named f ≡ (config_of rs a).named f or_else (config_of rs b).named f
    unfolding config_of
    merged_named f =
        by_test (eqb (supplier a f) absent)
        (λ y.
        let e : supplier a f ≡ absent = eqb-true (supplier a f) absent y in
        ap (λ (k : ℕ). ((seen rs).own k).named f) (merged_none f e) ∙ sym (ap (λ o. o or_else ((seen rs).own (supplier b f)).named f) (none_named rs few f (supplier a f) e)))
        (λ y.
        ap (λ (k : ℕ). ((seen rs).own k).named f) (merged_own f (eqb-false (supplier a f) absent y))
        ∙ first_is (((seen rs).own (supplier a f)).named f) (((seen rs).own (supplier b f)).named f) (named_some a v f ∙ ap (λ (t : Bool). cond t false true) y))

    merged_based : (config_of rs (merged_row a b)).base ≡ (merge (config_of rs a) (config_of rs b)).base
    unfolding config_of merge base_by slot
    merged_based =
        ap (λ (k : ℕ). ((seen rs).own k).base) merged_base
        ∙ base_rule (λ k. ((seen rs).own k).base) (eqb (get_or a 3 absent) absent) (eqb (get_or b 3 absent) absent) (eqb (get_or a 4 absent) absent) (get_or a base_place absent) (get_or b base_place absent)
        ∙ sym (ap₂ unwrap_or (ap₂ (λ o p. o or_else p) (base_if_lem a v base_url) (base_if_lem b w base_url)) (ap (λ o. unwrap_or o ((seen rs).own (get_or b base_place absent)).base) (base_if_lem a v paths)))

    -- merged rows say the merged config
    pub merge_config : config_of rs (merged_row a b) ≡ merge (config_of rs a) (config_of rs b)
    unfolding config_of merge
    merge_config = λ i. record { named = λ f. merged_named f i; base = merged_based i }

    base_in : (r s t : Bool) (x y : ℕ) → x < length rs → y < length rs → cond r (cond s (cond t y x) y) x < length rs
    base_in false s t x y p q = p
    base_in true false t x y p q = q
    base_in true true false x y p q = p
    base_in true true true x y p q = q

    -- and are a row
    pub merge_is_row : Row rs (merged_row a b)
    unfolding base_by
    merge_is_row = record {
      long = merged_long;
      named = λ f n. by_test (eqb (supplier a f) absent)
          (λ y.
          let e : supplier (merged_row a b) f ≡ supplier b f = merged_none f (eqb-true (supplier a f) absent y) in
          ap (λ (k : ℕ). is_some ((record_at rs k).says f)) e ∙ w.named f (λ q. n (e ∙ q)))
          (λ y.
          let e : supplier (merged_row a b) f ≡ supplier a f = merged_own f (eqb-false (supplier a f) absent y) in
          ap (λ (k : ℕ). is_some ((record_at rs k).says f)) e ∙ v.named f (λ q. n (e ∙ q)));
      base =
          let z = base_in (eqb (get_or a 3 absent) absent) (eqb (get_or b 3 absent) absent) (eqb (get_or a 4 absent) absent) (get_or a base_place absent) (get_or b base_place absent) v.base w.base in
          omega (arith, z, merged_base);
      own = omega (arith, merge_number, v.own);
    }
