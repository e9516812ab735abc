-- The loop over records: what holds before each, and each way out. Assumes nothing.
use mathlib.Core.Path.{◌≡◌, refl, sym, ap, subst, ◌∙◌}
use mathlib.Core.List.{List, [], ◌∷◌, ◌++◌, map, map-append, reverse, reverse-cons, append_assoc, append-nil}
use Prim.Native.Nat.{ℕ, suc, ◌+◌, ◌-◌, ◌≤◌, ◌<◌}
use native.Mathlib.Omega.{arith}
use native.Mathlib.Numerals.{add-one}
use lib.ListN.{length, get_or, set, take, drop, length-set, length-reverse, length-map, length-drop, drop_of_length-le, get_or-append}
use lib.Seq.{drop-drop, get_or_at, get_or-set_same, get_or-set_other}
use lib.Dec.{eqb}
use borrow.Author.Tests.{lt-ltb, le-ltb, eqb-true, eqb-false}
use Rattle.text.specs.Bytes.{Text}
use Rattle.text.proofs.Picks.{by_test}
use Rattle.book.specs.declared.Cmd.{Cmd}
use Rattle.std.specs.Prelude.{Result, Ok}
use Rattle.book.specs.declared.Closed.{Closed}
use Rattle.book.specs.declared.Refusal.{Refusal}
use Rattle.book.specs.Answer.{refused}
use Rattle.book.specs.Command.{decode}
use Rattle.book.specs.Rules.{path_of}
use Rattle.book.specs.Book.{judge, finish, verdict}
use Rattle.book.specs.Index.{up_to_end, record_at, begins_of, no_row, index_at, Row, AcceptedAs}
use Rattle.book.specs.declared.IndexRow.{IndexRow}
use Rattle.book.specs.declared.Seen.{Seen}
use Rattle.book.specs.State.{texts}
use Rattle.std.proofs.lemmas.List.{take_more_set, length-append}
use Rattle.book.specs.Checks.{Held, ClosedAs, CheckedAs, closed_row}
use Rattle.verdicts.proofs.Turns.{texts_more}

module _ (commands text : Text) where
  pub size_commands : 32768 < length commands → verdict commands text ≡ refused 1 0
  unfolding verdict
  size_commands h = rw (lt-ltb _ _ h) refl

  pub size_text : length commands ≤ 32768 → 65535 < length text → verdict commands text ≡ refused 1 0
  unfolding verdict
  size_text h l = rw (le-ltb _ _ h, lt-ltb _ _ l) refl

  -- where the records of the first n rows begin
  abbrev pub begins : ℕ → List IndexRow → List ℕ
  begins n index = map (λ (row : IndexRow). row.begin) (take n index)

  pub record Booked (index : List IndexRow) (rows : List Seen) (at : ℕ) : Type 0 where
    pub records : List (List Cmd)
    pub held : Held text rows records
    pub few : length rows ≤ 64
    pub long : length index ≡ 64
    pub place : at ≤ length commands
    pub whole : verdict commands text ≡ judge text (record { records = records; here = [] }) (decode 0 at (drop at commands))
    pub offsets : begins_of (decode 0 0 commands) ≡ begins (length rows) index ++ begins_of (decode 0 at (drop at commands))
    pub each : (i : ℕ) → i < length rows → Row commands text (index_at index i) (get_or (reverse (map reverse records)) i [])

  pub booked_none : length commands ≤ 32768 → length text ≤ 65535 → (index : List IndexRow) → length index ≡ 64 → Booked index [] 0
  unfolding verdict texts
  booked_none h l index a =
      record {
        records = [];
        held = record { size = refl; paths = refl };
        few = omega arith;
        long = a;
        place = omega arith;
        whole = rw (le-ltb _ _ h, le-ltb _ _ l) refl;
        offsets = refl;
        each = λ i h. absurd (omega (arith, h));
      }

  module _ {index : List IndexRow} {rows : List Seen} {at : ℕ} (s : Booked index rows at) where
    -- as many records as rows
    abbrev n : ℕ
    n = length rows

    pub booked_end : length commands ≤ at → AcceptedAs commands text index (length rows)
    unfolding judge decode finish begins_of
    booked_end h =
        record {
          records = reverse (map reverse s.records);
          accepted = s.whole ∙ rw (drop_of_length-le commands h) refl;
          size = length-reverse (map reverse s.records) ∙ length-map s.records reverse ∙ s.held.size;
          few = s.few;
          offsets = sym (s.offsets ∙ rw (drop_of_length-le commands h) (append-nil (begins n index)));
          each = s.each;
        }

    module _ (part : Text) (is : part ≡ drop at commands) (r : Result Closed Refusal) (c : CheckedAs part at text rows r) where
      module _ (o : Closed) (e : r ≡ Ok o) where
        abbrev to : ℕ
        to = o.end

        abbrev start : ℕ
        start = o.start

        abbrev len : ℕ
        len = o.len

        closed_as : ClosedAs part at text rows to start len
        closed_as = subst (CheckedAs part at text rows) e c

        left : length part ≡ length commands - at
        left = ap length is ∙ length-drop at commands

        pub booked_few : length rows < 64
        booked_few = closed_as.few

        on : drop (to - at) part ≡ drop to commands
        on =
            let sum : at + (to - at) ≡ to = omega (arith, closed_as.moves) in
            ap (drop (to - at)) is ∙ drop-drop (to - at) at commands ∙ ap (λ (k : ℕ). drop k commands) sum

        -- the record that was closed comes after those before
        listed : reverse (map reverse (closed_as.closed ∷ s.records)) ≡ reverse (map reverse s.records) ++ (reverse closed_as.closed ∷ [])
        listed = reverse-cons (reverse closed_as.closed) (map reverse s.records)

        before : length (reverse (map reverse s.records)) ≡ n
        before = length-reverse (map reverse s.records) ∙ length-map s.records reverse ∙ s.held.size

        abbrev row : IndexRow
        row = record { begin = at; start = start; len = len }

        new_row : Row commands text row (reverse closed_as.closed)
        unfolding record_at
        new_row =
            record {
              there = omega (arith, closed_as.moves, left, s.place);
              reads = sym closed_as.reads ∙ ap (λ (l : Text). up_to_end (decode 0 at l)) is;
              within = closed_as.within;
              path = sym closed_as.named;
            }

        rows_on : (i : ℕ) → i < n + 1 → Row commands text (index_at (set index n row) i) (get_or (reverse (map reverse (closed_as.closed ∷ s.records))) i [])
        rows_on i h =
            by_test (eqb i n)
            (λ y. subst (λ (j : ℕ). Row commands text (index_at (set index n row) j) (get_or (reverse (map reverse (closed_as.closed ∷ s.records))) j [])) (sym (eqb-true i n y))
            (rw (listed, get_or_at (reverse (map reverse s.records)) (reverse closed_as.closed) [] [] n before, get_or-set_same index n row no_row (omega (arith, booked_few, s.long)))
            new_row))
            (λ y.
            let other : i ≡ n → ⊥ = eqb-false i n y in
            let less : i < n = omega (arith, h, other) in
            rw (listed, get_or-append (reverse (map reverse s.records)) (reverse closed_as.closed ∷ []) [] i (omega (arith, less, before)), get_or-set_other index n i row no_row other)
            (s.each i less))

        pub booked_on : (rows' : List Seen) → rows' ≡ rows ++ closed_row text o ∷ [] → Booked (set index n row) rows' to
        booked_on rows' y = rw y with_it
          where
            d : ClosedAs part at text rows to start len
            d = closed_as

            here : {p : Text} → path_of text closed_as.closed ≡ p → map (path_of text) (closed_as.closed ∷ s.records) ≡ p ∷ texts text rows
            here y = rw (y, s.held.paths) refl

            one_more : length (rows ++ closed_row text o ∷ []) ≡ n + 1
            one_more = length-append rows (closed_row text o ∷ [])

            begun_more : begins (n + 1) (set index n row) ≡ begins n index ++ at ∷ []
            begun_more = ap (map (λ (r : IndexRow). r.begin)) (take_more_set index n row (omega (arith, booked_few, s.long))) ∙ map-append (λ (r : IndexRow). r.begin) (take n index) (row ∷ [])

            offsets_on : begins_of (decode 0 0 commands) ≡ begins (n + 1) (set index n row) ++ begins_of (decode 0 to (drop to commands))
            offsets_on =
                s.offsets ∙ ap (λ (l : Text). begins n index ++ begins_of (decode 0 at l)) (sym is)
                ∙ ap (λ (l : List ℕ). begins n index ++ l) (closed_as.begun ∙ ap (λ (l : Text). at ∷ begins_of (decode 0 to l)) on)
                ∙ sym (append_assoc (begins n index) (at ∷ []) (begins_of (decode 0 to (drop to commands))))
                ∙ ap (λ (l : List ℕ). l ++ begins_of (decode 0 to (drop to commands))) (sym begun_more)

            with_it : Booked (set index n row) (rows ++ closed_row text o ∷ []) to
            with_it =
                record {
                  records = d.closed ∷ s.records;
                  held = record {
                    size = ap suc s.held.size ∙ sym (add-one n) ∙ sym one_more;
                    paths = here d.path ∙ sym (texts_more text rows (closed_row text o));
                  };
                  few = omega (arith, booked_few, one_more);
                  long = length-set index n row ∙ s.long;
                  place = omega (arith, d.moves, left, s.place);
                  whole =
                      s.whole ∙ ap (λ (l : Text). judge text (record { records = s.records; here = [] }) (decode 0 at l)) (sym is) ∙ d.whole s.records s.held
                      ∙ ap (λ (l : Text). judge text (record { records = d.closed ∷ s.records; here = [] }) (decode 0 to l)) on;
                  offsets = rw one_more offsets_on;
                  each = λ i h. rows_on i (omega (arith, h, one_more));
                }
