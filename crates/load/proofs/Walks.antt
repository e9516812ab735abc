-- The load and the walk over the parents, branch by branch. Assumes nothing.
use mathlib.Core.Path.{◌≡◌, refl, sym, ap, ap₂, subst, ◌∙◌, fun_ext}
use mathlib.Core.List.{List, [], ◌∷◌, ◌++◌, reverse, reverse-append, map-append}
use mathlib.Core.Bool.{Bool, true, false, cond, not, ◌||◌, ◌&&◌, and-false}
use Rattle.std.specs.Prelude.{Option, Some, None, is_some, option_map, Result, Ok, Err}
use Prim.Native.Nat.{ℕ, suc, ◌+◌, ◌<◌, ◌≤◌}
use native.Mathlib.Omega.{arith}
use native.Mathlib.Numerals.{add-one, one-add}
use lib.Dec.{eqb}
use lib.ListN.{length, get_or, set, take, length-take}
use lib.Seq.{get_or-set_same, get_or-set_other, take-suc, take_all}
use borrow.Author.Tests.{eqb-true, eqb-false}
use Rattle.text.proofs.Picks.{by_test}
use Rattle.book.specs.Answer.{refused, ◌>>=◌, unless}
use Rattle.book.specs.Refusals.{number_of, refusal}
use Rattle.book.specs.declared.Refusal.{Refusal}
use Rattle.book.specs.Sound.{All}
use Rattle.tsconfig.specs.Config.{merge}
use Rattle.tsconfig.specs.Parsed.{Parsed}
use Rattle.tsconfig_resolver.specs.Line as line
use Rattle.tsconfig_resolver.specs.Line.{tally}
use Rattle.tsconfig_resolver.specs.Load.{done, recall, add, put, counted, unread, fresh, parent, walk, load}
use Rattle.tsconfig_resolver.specs.Find.{seen}
use Rattle.tsconfig_resolver.specs.Project.{Merged}
use Rattle.tsconfig_resolver.proofs.Tally.{tally_ext, tally_add}
use Rattle.tsconfig_resolver.proofs.Fuel.{load_law, free_cons}
use Rattle.rows.specs.Rows.{number_of as row_number, config_of, Row}
use Rattle.rows.specs.Merge.{merged_row}
use Rattle.rows.proofs.Configs.{merge_number, merge_config, merge_is_row}
use Rattle.entries.specs.declared.lists.Entry.{Entry}
use Rattle.entries.specs.declared.lists.Entry.TheVariants.{Leads}
use Rattle.entries.specs.declared.lists.Opened.{Opened}
use Rattle.entries.specs.Entries.{entry_of, entries_of, Inside}
use Rattle.entries.specs.Opens.{OpenedAs, RefusedAs}
use Rattle.entries.proofs.Dirs.{few_records}
use Rattle.entries.proofs.Going.{all_before, all_after, all_head}
use Rattle.load.specs.declared.Loads.{Loads}
use Rattle.load.specs.Loads.{on_of, held, state_of, pending, Table, records_of, state, reach, Gives, Went, ToldAs, Tells, ParentAs, walks, LoadPre, WalkPre, BringPre}

-- The chain

chain_set : (on : List Bool) (c : ℕ) → c < length on → (i : ℕ) (a : Bool) → eqb i c ≡ a → get_or (set on c true) i false ≡ a || get_or on i false
chain_set on c h i true e = rw (eqb-true i c e, get_or-set_same on c true false h)
chain_set on c h i false e = rw (get_or-set_other on c i true false (eqb-false i c e))

pub on_add : (on : List Bool) (c : ℕ) → c < length on → on_of (set on c true) ≡ add c (on_of on)
on_add on c h = fun_ext λ i. chain_set on c h i (eqb i c) refl

-- the number that falls: the records not on the chain
pub spare : List Bool → ℕ
spare on = tally 64 (λ i. 1) (λ i. not (on_of on i))

pub spare_set : (on : List Bool) (c : ℕ) → c < 64 → length on ≡ 64 → get_or on c false ≡ false → spare on ≡ suc (spare (set on c true))
unfolding spare
spare_set on c lt long off =
    free_cons {Val = λ f. ℕ} {B = ℕ} (record { size = 64; own = λ i. record { named = λ f. None; base = 0 }; entries = λ i. [] }) (on_of on) c lt off
    ∙ ap (λ chain. suc (tally 64 (λ i. 1) (λ i. not (chain i)))) (sym (on_add on c (omega (arith, lt, long))))

-- a record that goes on the chain is pending no more
pub pending_falls : (on : List Bool) (table : List (Option (List ℕ))) (c : ℕ) → c < 64 → length on ≡ 64 → get_or on c false ≡ false → held table c ≡ None → pending on table ≡ suc (pending (set on c true) table)
unfolding pending
pending_falls on table c lt long off free =
    tally_ext 64 (λ i. 1) {d = λ i. not (on_of on i) && not (is_some (held table i))} {e = λ i. eqb i c || (not (on_of (set on c true) i) && not (is_some (held table i)))} (λ i. same i (eqb i c) refl)
    ∙ tally_add (λ i. 1) (λ i. not (on_of (set on c true) i) && not (is_some (held table i))) c self 64 lt
    ∙ one-add (tally 64 (λ i. 1) (λ i. not (on_of (set on c true) i) && not (is_some (held table i))))
  where
    same : (i : ℕ) (a : Bool) → eqb i c ≡ a → (not (on_of on i) && not (is_some (held table i))) ≡ (a || (not (on_of (set on c true) i) && not (is_some (held table i))))
    same i true e = rw (eqb-true i c e, off, free) refl
    same i false e = rw (get_or-set_other on c i true false (eqb-false i c e)) refl

    self : (not (on_of (set on c true) c) && not (is_some (held table c))) ≡ false
    self = rw (get_or-set_same on c true false (omega (arith, lt, long))) refl

-- The table

-- a row put into the table
module _ (rs : List Parsed) (t : List (Option (List ℕ))) (row : List ℕ) (c : ℕ) (lt : c < length t) where
  put_same : held (set t c (Some row)) c ≡ Some row
  put_same = get_or-set_same t c (Some row) None lt

  put_other : (i : ℕ) → (i ≡ c → ⊥) → held (set t c (Some row)) i ≡ held t i
  put_other i n = get_or-set_other t c i (Some row) None n

  pub state_put : (m : ℕ) → state_of rs (set t c (Some row)) m ≡ put c (config_of rs row) (state_of rs t m)
  unfolding state_of
  state_put m = λ i. record { table = λ k. go k (eqb k c) refl i; merges = m }
    where
      go : (k : ℕ) (a : Bool) → eqb k c ≡ a → option_map (config_of rs) (held (set t c (Some row)) k) ≡ cond a (Some (config_of rs row)) (option_map (config_of rs) (held t k))
      go k true e = rw (eqb-true k c e, put_same) refl
      go k false e = rw (put_other k (eqb-false k c e)) refl

  pub table_put : Row rs row → row_number row ≡ c → Table rs t → Table rs (set t c (Some row))
  table_put r o h = record {
    rows = λ i x k. by_test (eqb i c) (λ e. let z : row ≡ x = same_row i x k e in subst (Row rs) z r) (λ f. h.rows i x (sym (put_other i (eqb-false i c f)) ∙ k));
    own = λ i x k. by_test (eqb i c) (λ e. let z : row ≡ x = same_row i x k e in ap row_number (sym z) ∙ o ∙ sym (eqb-true i c e)) (λ f. h.own i x (sym (put_other i (eqb-false i c f)) ∙ k));
  }
    where
      same_row : (i : ℕ) (x : List ℕ) → held (set t c (Some row)) i ≡ Some x → eqb i c ≡ true → row ≡ x
      same_row i x k e = let z : Some row ≡ Some x = sym put_same ∙ ap (held (set t c (Some row))) (sym (eqb-true i c e)) ∙ k in cc

  -- a record that is loaded is pending no more
  pending_after : (on : List Bool) → c < length on → pending on (set t c (Some row)) ≡ pending (set on c true) t
  unfolding pending
  pending_after on l =
      tally_ext 64 (λ i. 1) {d = λ i. not (on_of on i) && not (is_some (held (set t c (Some row)) i))} {e = λ i. not (on_of (set on c true) i) && not (is_some (held t i))} (λ i. same i (eqb i c) refl)
    where
      same : (i : ℕ) (a : Bool) → eqb i c ≡ a → (not (on_of on i) && not (is_some (held (set t c (Some row)) i))) ≡ (not (on_of (set on c true) i) && not (is_some (held t i)))
      same i true e = rw (eqb-true i c e, put_same, get_or-set_same on c true false l) (and-false (not (get_or on c false)))
      same i false e = rw (get_or-set_other on c i true false (eqb-false i c e), put_other i (eqb-false i c e)) refl

pub state_counted : (rs : List Parsed) (table : List (Option (List ℕ))) (m : ℕ) → state_of rs table (m + 1) ≡ counted (state_of rs table m)
unfolding state_of
state_counted rs table m = λ i. record { table = λ k. option_map (config_of rs) (held table k); merges = add-one m i }

-- The record v is brought

module _ (l : Loads) (on : List Bool) (v : ℕ) where
  recalls : (o : Option (List ℕ)) → held l.table v ≡ o → recall ((state l).table v) (load (seen (records_of l)) (on_of on) v) (state l) ≡ recall (option_map (config_of (records_of l)) o) (load (seen (records_of l)) (on_of on) v) (state l)
  unfolding state_of
  recalls o e = ap (λ (o : Option (List ℕ)). recall (option_map (config_of (records_of l)) o) (load (seen (records_of l)) (on_of on) v) (state l)) e

  pub bring_held : (row : List ℕ) → held l.table v ≡ Some row → Table (records_of l) l.table → Tells l on v (reach on l) (recall ((state l).table v) (load (seen (records_of l)) (on_of on) v) (state l)) l (Ok row)
  bring_held row e t = record { told = record { book = refl; answer = recalls (Some row) e; row = t.rows v row e; own = t.own v row e; table = t; few = omega arith } }

  pub bring_loaded :
      held l.table v ≡ None → (most : ℕ) (now : Loads) (r : Result (List ℕ) Refusal) → Tells l on v most (load (seen (records_of l)) (on_of on) v (state l)) now r →
      Tells l on v most (recall ((state l).table v) (load (seen (records_of l)) (on_of on) v) (state l)) now r
  bring_loaded e most now r p = subst (λ (a : Gives). Tells l on v most a now r) (sym (recalls None e)) p

-- The walk

last_split : (es : List Entry) (j : ℕ) (d : Entry) → length es ≡ suc j → es ≡ take j es ++ (get_or es j d ∷ [])
last_split es j d h = sym (take_all (suc j) es (omega (arith, h))) ∙ take-suc es j d (omega (arith, h))

-- the last of the entries is the first that the walk meets
pub last_first : (es : List Entry) (j : ℕ) (d : Entry) → length es ≡ suc j → reverse (entries_of es) ≡ entry_of (get_or es j d) ∷ reverse (entries_of (take j es))
last_first es j d h =
    ap (λ (l : List Entry). reverse (entries_of l)) (last_split es j d h)
    ∙ ap reverse (map-append entry_of (take j es) (get_or es j d ∷ []))
    ∙ reverse-append (entries_of (take j es)) (entry_of (get_or es j d) ∷ [])

-- what is left of the entries is walked over as all of them are
pub record Walking (was : Loads) (on : List Bool) (c : ℕ) (es : List Entry) (x : List ℕ) (left : List Entry) (row : List ℕ) (now : Loads) : Type 0 where
  pub book : now.checked ≡ was.checked
  pub same : walks (records_of was) on c es (config_of (records_of was) x) (state was) ≡ walks (records_of now) on c left (config_of (records_of now) row) (state now)
  pub pre : WalkPre now on c left row
  pub few : length left + reach on now ≤ length es + reach on was

module _ (was : Loads) (on : List Bool) (c : ℕ) (es : List Entry) (x : List ℕ) where
  module _ (left : List Entry) (row : List ℕ) (now : Loads) (w : Walking was on c es x left row now) where
    module _ (j : ℕ) (h : length left ≡ suc j) (d e : Entry) (i : e ≡ get_or left j d) where
      -- what the walk does with the parent that it meets
      next : Gives → Gives
      next z = z >>= λ r. walks (records_of now) on c (take j left) (merge (config_of (records_of now) row) r.config) (counted r.state)

      meets : walks (records_of was) on c es (config_of (records_of was) x) (state was) ≡ next (parent (load (seen (records_of now)) (on_of on)) c (entry_of e) (state now))
      unfolding next
      meets =
          w.same
          ∙ ap (λ (l : List line.Entry). walk (load (seen (records_of now)) (on_of on)) c l (config_of (records_of now) row) (state now)) (last_first left j d h)
          ∙ ap (λ (y : Entry). next (parent (load (seen (records_of now)) (on_of on)) c (entry_of y) (state now))) (sym i)

      pub walk_refused : (r : Refusal) → ParentAs c e (Err r) → walks (records_of was) on c es (config_of (records_of was) x) (state was) ≡ refusal r
      unfolding next
      walk_refused r p = meets ∙ ap next (p (load (seen (records_of now)) (on_of on)) (state now))

      module _ (v : ℕ) (l : e ≡ Leads v) where
        leads_on : walks (records_of was) on c es (config_of (records_of was) x) (state was) ≡ next (recall ((state now).table v) (load (seen (records_of now)) (on_of on) v) (state now))
        leads_on = meets ∙ ap (λ (y : Entry). next (parent (load (seen (records_of now)) (on_of on)) c (entry_of y) (state now))) l

        pub bring_next : BringPre now on v
        bring_next = record {
          table = w.pre.table;
          inside = (all_head (get_or left j d) [] (all_after (take j left) (get_or left j d ∷ []) (subst (All (Inside (length now.checked.now.book.paths.rows.now))) (last_split left j d h) w.pre.entries))).inside v (sym i ∙ l);
          few = omega (arith, w.pre.few);
        }

        module _ (new : Loads) (r : Result (List ℕ) Refusal) (q : Tells now on v (reach on now) (recall ((state now).table v) (load (seen (records_of now)) (on_of on) v) (state now)) new r) where
          module _ (far : List ℕ) (k : r ≡ Ok far) where
            pub brought : Went now on v (reach on now) (recall ((state now).table v) (load (seen (records_of now)) (on_of on) v) (state now)) new far
            brought = subst (ToldAs now on v (reach on now) (recall ((state now).table v) (load (seen (records_of now)) (on_of on) v) (state now)) new) k q.told

            pub walking_on : (y : List ℕ) → y ≡ merged_row row far → Walking was on c es x (take j left) y (record { checked = new.checked; table = new.table; merges = new.merges + 1 })
            unfolding next
            walking_on y f = subst (λ b. Walking was on c es x (take j left) y (record { checked = b; table = new.table; merges = new.merges + 1 })) (sym brought.book) (record {
              book = w.book;
              same =
                  leads_on
                  ∙ ap next brought.answer
                  ∙ ap₂ (walks (records_of now) on c (take j left)) (sym (ap (config_of (records_of now)) f ∙ merge_config (records_of now) now.checked.now.book.records.few row far w.pre.row brought.row)) (sym (state_counted (records_of now) new.table new.merges));
              pre = record {
                table = brought.table;
                entries = all_before (take j left) (get_or left j d ∷ []) (subst (All (Inside (length now.checked.now.book.paths.rows.now))) (last_split left j d h) w.pre.entries);
                row = subst (Row (records_of now)) (sym f) (merge_is_row (records_of now) now.checked.now.book.records.few row far w.pre.row brought.row);
                own = ap row_number f ∙ merge_number (records_of now) now.checked.now.book.records.few row far w.pre.row brought.row ∙ w.pre.own;
                few = omega (arith, w.pre.few, brought.few, h, length-take j left);
              };
              few = omega (arith, w.few, brought.few, h, length-take j left);
            })

-- The load

module _ (was : Loads) (on : List Bool) (c : ℕ) (inside : c < length (records_of was)) where
  -- the records of the book
  abbrev rs : List Parsed
  rs = records_of was

  -- the load's law with the test's answer and the entries' put in
  by_tests : (a : Bool) (o : Option ℕ) → on_of on c ≡ a → unread ((seen rs).entries c) ≡ o → load (seen rs) (on_of on) c (state was) ≡ unless (cond a (Some 9) o) c (fresh (seen rs) (load (seen rs) (add c (on_of on))) c) (state was)
  by_tests a o e f =
      load_law (seen rs) (on_of on) c (state was) inside
      ∙ ap₂ (λ (x : Bool) (y : Option ℕ). unless (cond x (Some 9) y) c (fresh (seen rs) (load (seen rs) (add c (on_of on))) c) (state was)) e f

  pub load_on : get_or on c false ≡ true → load (seen rs) (on_of on) c (state was) ≡ refused 9 c
  load_on e = by_tests true (unread ((seen rs).entries c)) e refl

  module _ (off : get_or on c false ≡ false) where
    pub load_unread : (r : Refusal) → RefusedAs rs c r → load (seen rs) (on_of on) c (state was) ≡ refusal r
    load_unread r p = by_tests false (Some (number_of r.fault)) off p.why ∙ ap (refused (number_of r.fault)) (sym p.place)

    module _ (o : Opened) (p : OpenedAs rs c o) (long : length on ≡ 64) (lt : c < 64) (es : List Entry) (is : es ≡ take o.entries.count o.entries.all) where
      few_entries : length es ≤ 8
      few_entries = omega (arith, ap length is, length-take o.entries.count o.entries.all, o.entries.few)

      opens : load (seen rs) (on_of on) c (state was) ≡ (walks rs (set on c true) c es (config_of rs o.row) (state was) >>= λ v. done v.config (put c v.config v.state))
      opens =
          by_tests false None off p.read
          ∙ ap (λ (z : Gives). z >>= λ v. done v.config (put c v.config v.state))
          (sym (ap₂ (λ (chain : ℕ → Bool) (l : List line.Entry). walk (load (seen rs) chain) c (reverse l) (config_of rs o.row) (state was)) (on_add on c (omega (arith, long, lt))) (ap entries_of is ∙ p.entries.entries)
          ∙ ap (λ (x : Merged). walk (load (seen rs) (add c (on_of on))) c (reverse ((seen rs).entries c)) x (state was)) p.config))

      module _ (free : held was.table c ≡ None) (now : Loads) (w : Result (List ℕ) Refusal)
          (q : Tells was (set on c true) c (length es + reach (set on c true) was) (walks rs (set on c true) c es (config_of rs o.row) (state was)) now w) where
        pub load_refused : (r : Refusal) → w ≡ Err r → load (seen rs) (on_of on) c (state was) ≡ refusal r
        load_refused r f =
            opens
            ∙ ap (λ (z : Gives). z >>= λ v. done v.config (put c v.config v.state)) (subst (ToldAs was (set on c true) c (length es + reach (set on c true) was) (walks rs (set on c true) c es (config_of rs o.row) (state was)) now) f q.told)

        module _ (row : List ℕ) (f : w ≡ Ok row) where
          pub walked : Went was (set on c true) c (length es + reach (set on c true) was) (walks rs (set on c true) c es (config_of rs o.row) (state was)) now row
          walked = subst (ToldAs was (set on c true) c (length es + reach (set on c true) was) (walks rs (set on c true) c es (config_of rs o.row) (state was)) now) f q.told

          pub load_done : length now.table ≡ 64 → Went was on c (reach on was) (load (seen rs) (on_of on) c (state was)) (record { checked = now.checked; table = set now.table c (Some row); merges = now.merges }) row
          load_done n =
              let k : c < length now.table = omega (arith, n, lt) in
              record {
                book = walked.book;
                answer =
                    opens
                    ∙ ap (λ (z : Gives). z >>= λ v. done v.config (put c v.config v.state)) walked.answer
                    ∙ sym (ap (done (config_of rs row)) (state_put rs now.table row c k now.merges));
                row = walked.row;
                own = walked.own;
                table = table_put rs now.table row c k walked.row walked.own walked.table;
                few = omega (arith, walked.few, few_entries, pending_after rs now.table row c k on (omega (arith, long, lt)), pending_falls on was.table c lt long off free);
              }

-- what the walk from the record asks
pub walk_start : (l : Loads) (on : List Bool) (c : ℕ) → length on ≡ 64 → LoadPre l on c → get_or on c false ≡ false → (o : Opened) → OpenedAs (records_of l) c o → (es : List Entry) → es ≡ take o.entries.count o.entries.all → WalkPre l (set on c true) c es o.row
walk_start l on c long p off o q es is = record {
  table = p.table;
  entries = subst (All (Inside (length l.checked.now.book.paths.rows.now))) (sym is) (subst (λ (n : ℕ). All (Inside n) (take o.entries.count o.entries.all)) l.checked.now.listed.size q.entries.inside);
  row = q.row;
  own = q.own;
  few = omega (arith, p.few, ap length is, length-take o.entries.count o.entries.all, o.entries.few, pending_falls on l.table c (omega (arith, p.inside, few_records l.checked.now)) long off p.fresh);
}
