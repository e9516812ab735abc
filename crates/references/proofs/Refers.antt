-- The references of a config, one after the other. Assumes nothing.
use Rattle.book.specs.Index.{begin_of}
use mathlib.Core.Path.{◌≡◌, refl, sym, ap, ap₂, subst, ◌∙◌, fun_ext}
use mathlib.Core.List.{List, [], ◌∷◌, ◌++◌, map-append, reverse, append_assoc, append-nil}
use mathlib.Core.Bool.{Bool, false, not, ◌&&◌}
use Rattle.std.proofs.Common.{Bor}
use Rattle.std.specs.Prelude.{Option, Some, None, is_some, option_map, Result, Ok, Err}
use Prim.Native.Nat.{ℕ, zero, suc, ◌+◌, ◌*◌, ◌<◌, ◌≤◌}
use native.Mathlib.Omega.{arith}
use native.Mathlib.Numerals.{add-one}
use lib.ListN.{length, get_or, set, take, replicate, length-set, length-take}
use lib.Seq.{take-suc-set}
use borrow.Author.Tests.{ne_eqb}
use Rattle.text.specs.Bytes.{Text}
use Rattle.book.specs.declared.Refusal.{Refusal}
use Rattle.book.specs.Answer.{Answer, refused, given, ◌>>=◌}
use Rattle.book.specs.Refusals.{refusal}
use Rattle.book.specs.Command.{reference}
use Rattle.book.specs.Record.{strings}
use Rattle.book.specs.Index as index
use Rattle.book.specs.Sound.{All, nil, cons}
use Rattle.tsconfig.specs.Parsed.{Parsed}
use Rattle.tsconfig.specs.Claims.{Site}
use Rattle.tsconfig_resolver.specs.Line as line
use Rattle.tsconfig_resolver.specs.Load.{start, walk, load, load_asked}
use Rattle.tsconfig_resolver.specs.References.{refer}
use Rattle.tsconfig_resolver.specs.Find.{seen, meant, record_at}
use Rattle.tsconfig_resolver.specs.Project.{Merged, Store, Referred, site_at, refer_to, references_of, load_record}
use Rattle.tsconfig_resolver.proofs.Tally.{tally_le}
use Rattle.rows.specs.Rows.{config_of, site_of, Row}
use Rattle.rows.specs.Checked.{records_in}
use Rattle.rows.specs.declared.CheckedBook.{CheckedBook}
use Rattle.entries.specs.declared.lists.Entry.{Entry}
use Rattle.entries.specs.declared.lists.Opened.{Opened}
use Rattle.entries.specs.Entries.{entries_of}
use Rattle.entries.specs.Opens.{OpenedAs}
use Rattle.entries.proofs.Going.{all_join}
use Rattle.entries.proofs.Dirs.{references_are, record_sound, few_references}
use Rattle.load.specs.declared.Loads.{Loads}
use Rattle.load.specs.Loads.{on_of, held, state_of, pending, Table, records_of, state, reach, Gives, Went, ToldAs, Tells, walks, LoadPre}
use Rattle.references.specs.References.{nobody, ReferPre, Refer, ReferAs, Refers, sites_of, Listed, ListedAs, Lists, Opened as Whole}

pub nobody_on : on_of nobody ≡ (λ i. false)
nobody_on = fun_ext go
  where
    go : (i : ℕ) → get_or (replicate 64 false) i false ≡ false
    go i = over 64 i
      where
        over : (n i : ℕ) → get_or (replicate n false) i false ≡ false
        over zero i = refl
        over (suc n) zero = refl
        over (suc n) (suc i) = over n i

-- One reference

module _ (was : Loads) (c r : ℕ) (other : r ≡ c → ⊥) (o : Opened) (p : OpenedAs (records_of was) r o) (es : List Entry) (is : es ≡ take o.entries.count o.entries.all) where
  refer_walks : refer (seen (records_of was)) c r (state was) ≡ walks (records_of was) nobody r es (config_of (records_of was) o.row) (state was)
  refer_walks =
      (rw (ne_eqb r c other, p.read) refl)
      ∙ sym (ap₂ (λ (chain : ℕ → Bool) (l : List line.Entry). walk (load (seen (records_of was)) chain) r (reverse l) (config_of (records_of was) o.row) (state was)) nobody_on (ap entries_of is ∙ p.entries.entries)
      ∙ ap (λ (x : Merged). walk (load (seen (records_of was)) (λ i. false)) r (reverse ((seen (records_of was)).entries r)) x (state was)) p.config)

  pub refer_walk : (now : Loads) (w : Result (List ℕ) Refusal) →
      Tells was nobody r (length es + reach nobody was) (walks (records_of was) nobody r es (config_of (records_of was) o.row) (state was)) now w →
      Tells was nobody r (8 + reach nobody was) (refer (seen (records_of was)) c r (state was)) now w
  refer_walk now (Err f) q = record { told = refer_walks ∙ q.told }
  refer_walk now (Ok x) q =
      let few : length es ≤ 8 = omega (arith, ap length is, length-take o.entries.count o.entries.all, o.entries.few) in
      record { told = record { book = q.told.book; answer = refer_walks ∙ q.told.answer; row = q.told.row; own = q.told.own; table = q.told.table; few = omega (arith, few, q.told.few) } }

-- a reference by its text
module _ (was : Loads) (c : ℕ) (s : Text) (f : Option ℕ) (e : f ≡ meant (records_of was) c s) where
  pub meant_nothing : f ≡ None → refer_to (records_of was) c (meant (records_of was) c s) (state was) ≡ refused 8 c
  unfolding refer_to
  meant_nothing g = ap (λ (o : Option ℕ). refer_to (records_of was) c o (state was)) (sym e ∙ g)

  module _ (r : ℕ) (g : f ≡ Some r) where
    means : refer_to (records_of was) c (meant (records_of was) c s) (state was) ≡ (refer (seen (records_of was)) c r (state was) >>= λ x. given (record { site = site_at (records_of was) r x.config; state = x.state }))
    unfolding refer_to
    means = ap (λ (o : Option ℕ). refer_to (records_of was) c o (state was)) (sym e ∙ g)

    pub meant_told : (most : ℕ) (now : Loads) (w : Result (List ℕ) Refusal) → Tells was nobody r most (refer (seen (records_of was)) c r (state was)) now w → Refers was most (refer_to (records_of was) c (meant (records_of was) c s) (state was)) now w
    unfolding site_of
    meant_told most now (Err h) q = record { told = means ∙ ap (λ (z : Gives). z >>= λ x. given (record { site = site_at (records_of was) r x.config; state = x.state })) q.told }
    meant_told most now (Ok x) q =
        record {
          told = record {
            book = q.told.book;
            answer =
                means ∙ ap (λ (z : Gives). z >>= λ x. given (record { site = site_at (records_of was) r x.config; state = x.state })) q.told.answer
                ∙ ap (λ (i : ℕ). given (record { site = site_at (records_of was) i (config_of (records_of was) x); state = state_of (records_of was) now.table now.merges })) (sym q.told.own);
            row = q.told.row;
            table = q.told.table;
            few = q.told.few;
          };
        }

-- The loop over the references

-- count references are loaded, and these are left
pub record Referring (was : Loads) (c : ℕ) (now : Loads) (refs : List (List ℕ)) (left : List Text) (count : ℕ) : Type 0 where
  pub book : now.checked ≡ was.checked
  pub rest :
      references_of (records_of was) c (record_at (records_of was) c).references (state was)
      ≡ (references_of (records_of now) c left (state now) >>= λ more. given (sites_of (records_of now) (take count refs) ++ more))
  pub few : count + length left ≤ 16
  pub rows : All (Row (records_of now)) (take count refs)
  pub long : length refs ≡ 16
  pub holds : Table (records_of now) now.table
  pub spent : reach nobody now ≤ 512 + 8 * count

given_self : (a : Answer (List Site)) → a ≡ (a >>= λ more. given ([] ++ more))
given_self (refused k p) = refl
given_self (given l) = refl

both : (a : Answer (List Site)) (x : Site) (l k : List Site) → l ++ (x ∷ []) ≡ k → ((a >>= λ more. given (x ∷ more)) >>= λ more. given (l ++ more)) ≡ (a >>= λ more. given (k ++ more))
both (refused n p) x l k e = refl
both (given more) x l k e = ap given (sym (append_assoc l (x ∷ []) more) ∙ ap (◌++ more) e)

module _ (was : Loads) (c : ℕ) (inside : c < length was.checked.now.book.paths.rows.now) where
  pub referring_start :
      (refs : List (List ℕ)) → length refs ≡ 16 → Table (records_of was) was.table → reach nobody was ≤ 512 →
      (left : List Text) → left ≡ strings was.checked.now.book.paths.text.now reference (index.record_at was.checked.now.book.commands.now (begin_of was.checked.now.book.paths.rows.now c)) → Referring was c was refs left 0
  referring_start refs l t h left e = record {
    book = refl;
    rest =
        ap (λ (ts : List Text). references_of (records_of was) c ts (state was)) (references_are was.checked.now c inside ∙ sym e)
        ∙ given_self (references_of (records_of was) c left (state was));
    few = omega (arith, ap length e, few_references was.checked.now.book.paths.text.now (index.record_at was.checked.now.book.commands.now (begin_of was.checked.now.book.paths.rows.now c)) (record_sound was.checked.now c inside));
    rows = nil;
    long = l;
    holds = t;
    spent = omega (arith, h);
  }

  module _ (now : Loads) (refs : List (List ℕ)) (left : List Text) (count : ℕ) (p : Referring was c now refs left count) where
    pub referring_end : left ≡ [] → Listed (records_of was) (references_of (records_of was) c (record_at (records_of was) c).references (state was)) refs count
    unfolding references_of
    referring_end e = subst (λ b. Listed (records_in b.now.book) (references_of (records_of was) c (record_at (records_of was) c).references (state was)) refs count) p.book (record {
      answer =
          p.rest
          ∙ ap (λ (l : List Text). references_of (records_of now) c l (state now) >>= λ more. given (sites_of (records_of now) (take count refs) ++ more)) e
          ∙ ap given (append-nil (sites_of (records_of now) (take count refs)));
      few = omega (arith, p.few);
      rows = p.rows;
    })

    module _ {u : Text} {next : List Text} (e : left ≡ u ∷ next) where
      pub referring_room : count < 16
      referring_room = omega (arith, p.few, ap length e)

      -- what the next reference asks
      pub referring_next : ReferPre now c
      referring_next = record { table = p.holds; inside = subst (λ b. c < length b.now.book.paths.rows.now) (sym p.book) inside; few = omega (arith, p.spent, referring_room) }

      module _ (new : Loads) (w : Result (List ℕ) Refusal) (q : Refers now (8 + reach nobody now) (refer_to (records_of now) c (meant (records_of now) c u) (state now)) new w) where
        opens : (a : Answer Referred) → refer_to (records_of now) c (meant (records_of now) c u) (state now) ≡ a →
            references_of (records_of was) c (record_at (records_of was) c).references (state was)
            ≡ ((a >>= λ y. (references_of (records_of now) c next y.state >>= λ more. given (y.site ∷ more))) >>= λ more. given (sites_of (records_of now) (take count refs) ++ more))
        unfolding references_of
        opens a h =
            p.rest
            ∙ ap (λ (l : List Text). references_of (records_of now) c l (state now) >>= λ more. given (sites_of (records_of now) (take count refs) ++ more)) e
            ∙ ap (λ (z : Answer Referred). (z >>= λ y. (references_of (records_of now) c next y.state >>= λ more. given (y.site ∷ more))) >>= λ more. given (sites_of (records_of now) (take count refs) ++ more)) h

        pub referring_refused : (f : Refusal) → w ≡ Err f → references_of (records_of was) c (record_at (records_of was) c).references (state was) ≡ refusal f
        referring_refused f h = opens (refusal f) (subst (ReferAs now (8 + reach nobody now) (refer_to (records_of now) c (meant (records_of now) c u) (state now)) new) h q.told)

        pub referring_on : (x : List ℕ) → w ≡ Ok x → Referring was c new (set refs count x) next (count + 1)
        referring_on x h =
            let z : Refer now (8 + reach nobody now) (refer_to (records_of now) c (meant (records_of now) c u) (state now)) new x = subst (ReferAs now (8 + reach nobody now) (refer_to (records_of now) c (meant (records_of now) c u) (state now)) new) h q.told in
            let more : take (count + 1) (set refs count x) ≡ take count refs ++ (x ∷ []) = ap (λ (j : ℕ). take j (set refs count x)) (add-one count) ∙ take-suc-set refs count x (omega (arith, p.long, referring_room)) in
            subst (λ b. Referring was c (record { checked = b; table = new.table; merges = new.merges }) (set refs count x) next (count + 1)) (sym z.book) (record {
              book = p.book;
              rest =
                  opens (given (record { site = site_of (records_of now) x; state = state_of (records_of now) new.table new.merges })) z.answer
                  ∙ both (references_of (records_of now) c next (state_of (records_of now) new.table new.merges)) (site_of (records_of now) x) (sites_of (records_of now) (take count refs)) (sites_of (records_of now) (take (count + 1) (set refs count x)))
                  (sym (ap (sites_of (records_of now)) more ∙ map-append (site_of (records_of now)) (take count refs) (x ∷ [])));
              few = omega (arith, p.few, ap length e);
              rows = subst (All (Row (records_of now))) (sym more) (all_join (take count refs) (x ∷ []) p.rows (cons z.row nil));
              long = length-set refs count x ∙ p.long;
              holds = z.table;
              spent = omega (arith, z.few, p.spent);
            })

-- The whole

-- the table in which nothing is loaded
nothing_held : (n i : ℕ) → ◌≡◌ {A = Option (List ℕ)} (get_or {A = Option (List ℕ)} (replicate n None) i None) None
nothing_held zero i = refl
nothing_held (suc n) zero = refl
nothing_held (suc n) (suc i) = nothing_held n i

abbrev pub unloaded : List (Option (List ℕ))
unloaded = replicate 64 None

module _ (rs : List Parsed) where
  pub blank_table : Table rs unloaded
  blank_table = record { rows = λ i x h. no i x h; own = λ i x h. no i x h }
    where
      no : {X : Type 0} (i : ℕ) (x : List ℕ) → held unloaded i ≡ Some x → X
      no i x h = let z : ◌≡◌ {A = Option (List ℕ)} None (Some x) = sym (nothing_held 64 i) ∙ h in absurd cc

  blank_state : state_of rs unloaded 0 ≡ start
  unfolding state_of
  blank_state = λ i. record { table = λ k. ap (option_map (config_of rs)) (nothing_held 64 k) i; merges = 0 }

  pub pending_few : (on : List Bool) (t : List (Option (List ℕ))) → pending on t ≤ 64
  unfolding pending
  pending_few on t = tally_le 64 (λ i. not (on_of on i) && not (is_some (held t i)))

-- nothing is loaded of the book
abbrev pub none_of : Bor CheckedBook → Loads
none_of checked = record { checked = checked; table = unloaded; merges = 0 }

module _ (checked : Bor CheckedBook) (c : ℕ) where
  -- the records of the book
  abbrev rs : List Parsed
  rs = records_in checked.now.book

  module _ (t : Loads) (w : Result (List ℕ) Refusal) (q : Tells (none_of checked) nobody c (reach nobody (none_of checked)) (load (seen rs) (on_of nobody) c (state (none_of checked))) t w) where
    asks : load (seen rs) (on_of nobody) c (state (none_of checked)) ≡ load_asked (seen rs) c
    asks = ap₂ (λ (chain : ℕ → Bool) (s : Store). load (seen rs) chain c s) nobody_on (blank_state rs)

    pub whole_refused : (f : Refusal) → w ≡ Err f → load_record rs c ≡ refusal f
    unfolding load_record
    whole_refused f e =
        ap (λ (z : Gives). z >>= λ x. (references_of rs c (record_at rs c).references x.state >>= λ refs. given (record { site = site_at rs c x.config; references = refs; merges = x.state.merges })))
        (sym asks ∙ subst (ToldAs (none_of checked) nobody c (reach nobody (none_of checked)) (load (seen rs) (on_of nobody) c (state (none_of checked))) t) e q.told)

    module _ (x : List ℕ) (e : w ≡ Ok x) where
      went : Went (none_of checked) nobody c (reach nobody (none_of checked)) (load (seen rs) (on_of nobody) c (state (none_of checked))) t x
      went = subst (ToldAs (none_of checked) nobody c (reach nobody (none_of checked)) (load (seen rs) (on_of nobody) c (state (none_of checked))) t) e q.told

      few : reach nobody t ≤ 512
      few = omega (arith, went.few, pending_few rs nobody unloaded)

      -- what the references ask
      pub record_references : c < length checked.now.book.paths.rows.now → ReferPre t c × (reach nobody t ≤ 512)
      record_references inside = (subst (λ b. ReferPre (record { checked = b; table = t.table; merges = t.merges }) c) (sym went.book) (record { table = went.table; inside = inside; few = omega (arith, few) }), few)

      goes : load_record rs c ≡ (references_of rs c (record_at rs c).references (state_of rs t.table t.merges) >>= λ refs. given (record { site = site_at rs c (config_of rs x); references = refs; merges = t.merges }))
      unfolding load_record state_of
      goes =
          ap (λ (z : Gives). z >>= λ x. (references_of rs c (record_at rs c).references x.state >>= λ refs. given (record { site = site_at rs c x.config; references = refs; merges = x.state.merges })))
          (sym asks ∙ went.answer)

      module _ (refs : List (List ℕ)) (v : Result ℕ Refusal) (p : Lists (records_of t) (references_of (records_of t) c (record_at (records_of t) c).references (state t)) refs v) where
        listed : ListedAs rs (references_of rs c (record_at rs c).references (state_of rs t.table t.merges)) refs v
        listed = subst (λ (b : Bor CheckedBook). ListedAs (records_in b.now.book) (references_of (records_in b.now.book) c (record_at (records_in b.now.book) c).references (state_of (records_in b.now.book) t.table t.merges)) refs v) went.book p.told

        pub whole_reference : (f : Refusal) → v ≡ Err f → load_record rs c ≡ refusal f
        whole_reference f h =
            goes
            ∙ ap (λ (y : Answer (List Site)). y >>= λ refs. given (record { site = site_at rs c (config_of rs x); references = refs; merges = t.merges })) (subst (ListedAs rs (references_of rs c (record_at rs c).references (state_of rs t.table t.merges)) refs) h listed)

        pub whole_done : (k : ℕ) → v ≡ Ok k → Whole rs c (record { row = x; references = refs; count = k; merges = t.merges })
        unfolding site_of
        whole_done k h =
            let z : Listed rs (references_of rs c (record_at rs c).references (state_of rs t.table t.merges)) refs k = subst (ListedAs rs (references_of rs c (record_at rs c).references (state_of rs t.table t.merges)) refs) h listed in
            record {
              answer =
                  goes
                  ∙ ap (λ (y : Answer (List Site)). y >>= λ refs. given (record { site = site_at rs c (config_of rs x); references = refs; merges = t.merges })) z.answer
                  ∙ ap (λ (i : ℕ). given (record { site = site_at rs i (config_of rs x); references = sites_of rs (take k refs); merges = t.merges })) (sym went.own);
              row = went.row;
              own = went.own;
              few = z.few;
              rows = z.rows;
              small = omega (arith, few);
            }

  -- what the load asks
  pub record_load : c < length checked.now.book.paths.rows.now → LoadPre (none_of checked) nobody c
  record_load inside = record { table = blank_table rs; inside = inside; fresh = nothing_held 64 c; few = omega (arith, pending_few rs nobody unloaded) }
