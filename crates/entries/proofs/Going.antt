-- The extends entries of a record, one after the other. Assumes nothing.
use mathlib.Core.Path.{◌≡◌, refl, sym, ap, subst, ◌∙◌}
use mathlib.Core.List.{List, [], ◌∷◌, ◌++◌, map, append_assoc, append-nil, map-append}
use mathlib.Core.Bool.{Bool, true, false, cond, ◌||◌}
use Rattle.std.specs.Prelude.{Option, Some, None}
use Prim.Native.Nat.{ℕ, ◌+◌, ◌<◌, ◌≤◌}
use native.Mathlib.Omega.{arith}
use native.Mathlib.Numerals.{add-one}
use lib.Dec.{eqb}
use lib.ListN.{length, get_or, set, take, drop, length-set}
use lib.Seq.{take-suc-set}
use borrow.Author.Tests.{eq-eqb, ne_eqb, eqb-false}
use Rattle.text.specs.Bytes.{Text, slash, dot}
use Rattle.text.proofs.Picks.{by_test}
use Rattle.join.specs.Join.{normalize_with}
use Rattle.book.specs.Sound.{All, nil, cons}
use Rattle.book.specs.Find.{locate}
use Rattle.records.specs.declared.PathTable.{PathTable}
use Rattle.records.specs.Tables.{paths_in}
use Rattle.records.proofs.Paths.{locate_within}
use Rattle.tsconfig_resolver.specs.Line as line
use Rattle.tsconfig_resolver.specs.Load.{unread}
use Rattle.tsconfig_resolver.specs.Find.{reached}
use Rattle.rows.specs.declared.CheckedBook.{CheckedBook}
use Rattle.entries.specs.declared.lists.Entry.{Entry}
use Rattle.entries.specs.Entries.{entry_of, entries_of, entry_at, Inside}

-- One entry

-- it starts with `/` or `.`
abbrev led : ℕ → Bool
led x = eqb x slash || eqb x dot

module _ (paths : List Text) (dir s : Text) where
  pub entry_empty : length s ≡ 0 → line.empty ≡ entry_at paths dir s
  unfolding entry_at
  entry_empty h = go s h
    where
      go : (s : Text) → length s ≡ 0 → line.empty ≡ entry_at paths dir s
      go [] h = refl
      go (x ∷ s) h = absurd (omega (arith, h))

  module _ (h : 1 ≤ length s) where
    entry_led : entry_at paths dir s ≡ cond (led (get_or s 0 0)) (reached (locate paths (normalize_with dir s))) line.bare
    unfolding entry_at
    entry_led = go s h
      where
        go : (s : Text) → 1 ≤ length s → entry_at paths dir s ≡ cond (led (get_or s 0 0)) (reached (locate paths (normalize_with dir s))) line.bare
        go [] h = absurd (omega (arith, h))
        go (x ∷ s) h = refl

    pub entry_bare : (get_or s 0 0 ≡ slash → ⊥) → (get_or s 0 0 ≡ dot → ⊥) → line.bare ≡ entry_at paths dir s
    entry_bare n m = sym (entry_led ∙ rw (ne_eqb (get_or s 0 0) slash n, ne_eqb (get_or s 0 0) dot m) refl)

    -- the two bytes are neighbours
    pub entry_there : dot ≤ get_or s 0 0 → get_or s 0 0 ≤ slash → (r : Option ℕ) → r ≡ locate paths (normalize_with dir s) → reached r ≡ entry_at paths dir s
    entry_there l u r e =
        ap reached e
        ∙ sym (entry_led
        ∙ by_test (eqb (get_or s 0 0) slash) (λ t. rw t refl) (λ f. let n = eqb-false (get_or s 0 0) slash f in rw (f, eq-eqb (get_or s 0 0) dot (omega (arith, l, u, n))) refl))

-- what it leads to is a record of the table
leads_inside : (t : PathTable) (dir s : Text) (e : Entry) → entry_of e ≡ entry_at (paths_in t) dir s → Inside (length t.rows.now) e
unfolding entry_at
leads_inside t dir s e q = record { inside = λ i l. go s i (sym q ∙ ap entry_of l) }
  where
    reached_in : (w : Text) (i : ℕ) (o : Option ℕ) → o ≡ locate (paths_in t) w → reached o ≡ line.leads i → i < length t.rows.now
    reached_in w i None f h = let z : ⊥ = cc in absurd z
    reached_in w i (Some j) f h = let z : j ≡ i = cc in omega (arith, z, locate_within t.text.now t.rows.now w j f)

    led_in : (w : Text) (i : ℕ) (b : Bool) → cond b (reached (locate (paths_in t) w)) line.bare ≡ line.leads i → i < length t.rows.now
    led_in w i true h = reached_in w i (locate (paths_in t) w) refl h
    led_in w i false h = let z : ⊥ = cc in absurd z

    go : (s : Text) (i : ℕ) → entry_at (paths_in t) dir s ≡ line.leads i → i < length t.rows.now
    go [] i h = let z : ⊥ = cc in absurd z
    go (x ∷ s) i h = led_in (normalize_with dir (x ∷ s)) i (led x) h

-- The entries that are refused as they are read

-- the entries before j are not refused
pub record Unread (es : List Entry) (j : ℕ) : Type 0 where
  pub small : j ≤ length es
  pub same : unread (entries_of es) ≡ unread (entries_of (drop j es))

-- Parts of a list

pub all_after : {A : Type 0} {P : A → Type 0} (xs ys : List A) → All P (xs ++ ys) → All P ys
all_after [] ys h = h
all_after (x ∷ xs) ys (cons p h) = all_after xs ys h

pub all_before : {A : Type 0} {P : A → Type 0} (xs ys : List A) → All P (xs ++ ys) → All P xs
all_before [] ys h = nil
all_before (x ∷ xs) ys (cons p h) = cons p (all_before xs ys h)

pub all_join : {A : Type 0} {P : A → Type 0} (xs ys : List A) → All P xs → All P ys → All P (xs ++ ys)
all_join [] ys nil g = g
all_join (x ∷ xs) ys (cons p h) g = cons p (all_join xs ys h g)

pub all_head : {A : Type 0} {P : A → Type 0} (x : A) (ys : List A) → All P (x ∷ ys) → P x
all_head x ys (cons p h) = p

-- The loop over a record's extends entries: k of them are read, and these are left

pub record Reading (book : CheckedBook) (dir : Text) (given : List Text) (all : List Entry) (left : List Text) (k : ℕ) : Type 0 where
  pub rest : map (entry_at (paths_in book.book.paths) dir) given ≡ entries_of (take k all) ++ map (entry_at (paths_in book.book.paths) dir) left
  pub inside : All (Inside (length book.book.paths.rows.now)) (take k all)
  pub few : k + length left ≤ 8
  pub long : length all ≡ 8

module _ (book : CheckedBook) (dir : Text) (given : List Text) where
  pub reading_start : (all : List Entry) (left : List Text) → left ≡ given → length given ≤ 8 → length all ≡ 8 → Reading book dir given all left 0
  reading_start all left e h l = record { rest = ap (map (entry_at (paths_in book.book.paths) dir)) (sym e); inside = nil; few = omega (arith, ap length e, h); long = l }

  module _ (all : List Entry) (left : List Text) (k : ℕ) (p : Reading book dir given all left k) where
    pub reading_end : left ≡ [] → entries_of (take k all) ≡ map (entry_at (paths_in book.book.paths) dir) given
    reading_end e = sym (p.rest ∙ ap (λ (l : List Text). entries_of (take k all) ++ map (entry_at (paths_in book.book.paths) dir) l) e ∙ append-nil (entries_of (take k all)))

    module _ {s : Text} {next : List Text} (e : left ≡ s ∷ next) where
      pub reading_room : k < 8
      reading_room = omega (arith, p.few, ap length e)

      module _ (v : Entry) (h : entry_of v ≡ entry_at (paths_in book.book.paths) dir s) where
        more : take (k + 1) (set all k v) ≡ take k all ++ (v ∷ [])
        more = ap (λ (j : ℕ). take j (set all k v)) (add-one k) ∙ take-suc-set all k v (omega (arith, p.long, reading_room))

        pub reading_on : Reading book dir given (set all k v) next (k + 1)
        reading_on = record {
          rest =
              p.rest
              ∙ ap (λ (l : List Text). entries_of (take k all) ++ map (entry_at (paths_in book.book.paths) dir) l) e
              ∙ ap (λ (x : line.Entry). entries_of (take k all) ++ (x ∷ map (entry_at (paths_in book.book.paths) dir) next)) (sym h)
              ∙ sym (append_assoc (entries_of (take k all)) (entry_of v ∷ []) (map (entry_at (paths_in book.book.paths) dir) next))
              ∙ ap (◌++ map (entry_at (paths_in book.book.paths) dir) next) (sym (ap entries_of more ∙ map-append entry_of (take k all) (v ∷ [])));
          inside = subst (All (Inside (length book.book.paths.rows.now))) (sym more) (all_join (take k all) (v ∷ []) p.inside (cons (leads_inside book.book.paths dir s v h) nil));
          few = omega (arith, p.few, ap length e);
          long = length-set all k v ∙ p.long;
        }
