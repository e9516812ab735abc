-- The load ends in the flat config of the line, and has made the merges of the line's distinct records, each once.
-- Assumes nothing.
pub mod References
pub mod Room
use mathlib.Core.Path.{◌≡◌, refl, sym, ap, ap₂, ◌∙◌, subst}
use Rattle.std.proofs.lemmas.Bool.{or_left, or_right}
use Rattle.std.proofs.lemmas.List.{map-append}
use mathlib.Core.List.{List, [], ◌∷◌, ◌++◌, map, reverse, append-nil, append_assoc, Memᴰ}
use mathlib.Core.Bool.{Bool, true, false, ◌||◌, cond, or_assoc, or-false, true≢false, false≢true}
use Rattle.std.specs.Prelude.{Option, Some, None}
use Prim.Native.Nat.{ℕ, zero, suc, ◌+◌, ◌<◌, ◌≤◌}
use native.Mathlib.Omega.{arith}
use borrow.Author.Tests.{eqb-true, eq-eqb, ne_eqb}
use lib.Dec.{eqb}
use lib.ListN.{length, length-reverse}
use Rattle.book.specs.Answer.{Answer, refused, given, ◌>>=◌, unless}
use Rattle.tsconfig.specs.Config.{Field, Config, merge, flat}
use Rattle.tsconfig_resolver.specs.Line.{
  Configs,
  Entry,
  empty,
  bare,
  missing,
  leads,
  led,
  lines,
  elem,
  tally,
  parents,
  rest,
  above,
  line,
  flat_line,
  entries_of,
}
use Rattle.tsconfig_resolver.specs.Load.{State, Loaded, done, add, unread, recall, put, counted, start, walk, refusal, fresh, free, load_by, load, load_asked}
use Rattle.tsconfig.proofs.Flat.{flat_append, flat_one}
use Rattle.tsconfig_resolver.proofs.Tally.{elem_head, elem_append, tally_ext, tally_none, tally_le, tally_add, tally_distinct}
use Rattle.tsconfig_resolver.proofs.Line.{Within, within_more, rest_same, rest_step, rest_below, no_circle}

-- Tests and options.

abbrev pub has : {A : Type 0} → Option A → Bool
has (Some a) = true
has None = false

has_put : {A : Type 0} (t : Bool) (x : A) (o : Option A) → has (cond t (Some x) o) ≡ t || has o
has_put true x o = refl
has_put false x o = refl

or_swap : (a b c : Bool) → a || (b || c) ≡ b || (a || c)
or_swap true true c = refl
or_swap true false c = refl
or_swap false b c = refl

or_absorb : (a b : Bool) → (b ≡ true → a ≡ true) → a ≡ a || b
or_absorb true b h = refl
or_absorb false true h = h refl
or_absorb false false h = refl

add_self : (c : ℕ) (chain : ℕ → Bool) → add c chain c ≡ true
add_self c chain = or_left _ (chain c) (eq-eqb c c refl)

off_chain : (a : Bool) (o : Option ℕ) → cond a (Some 9) o ≡ None → a ≡ false
off_chain true o e = cc
off_chain false o e = refl

-- a parent stands in its own line
lines_mem : (u : ℕ → List ℕ) (p : ℕ) (ps : List ℕ) → Memᴰ p ps → elem p (lines u ps) ≡ true
lines_mem u p ps (Memᴰ.head {x = q} e) = or_left _ _ (eq-eqb p q e)
lines_mem u p ps (Memᴰ.tail {x = q} {xs = qs} m) =
    or_right (eqb p q) _ (elem_append p (u q) (lines u qs) ∙ or_right (elem p (u q)) _ (lines_mem u p qs m))

-- Answers that are no refusal.

refused_given : {A : Type 0} {n p : ℕ} {a : A} → refused n p ≡ given a → ⊥
refused_given e = let z : ◌≡◌ {A = ℕ} 0 1 = cc in omega arith

module _ {A : Type 0} where
  given_same : {a c : A} → given a ≡ given c → a ≡ c
  given_same e = cc

  none_some : {a : A} → None ≡ Some a → ⊥
  none_some e = let z : ◌≡◌ {A = ℕ} 0 1 = cc in omega arith

  then_given : {C : Type 0} (a : Answer A) (k : A → Answer C) {c : C} → (a >>= k) ≡ given c → (x : A) × (a ≡ given x) × (k x ≡ given c)
  then_given (refused n p) k e = absurd (refused_given e)
  then_given (given x) k e = (x, refl, e)

  unless_given : {S : Type 0} (o : Option ℕ) (p : ℕ) (k : S → Answer A) (s : S) {a : A} → unless o p k s ≡ given a → (o ≡ None) × (k s ≡ given a)
  unless_given (Some n) p k s e = absurd (refused_given e)
  unless_given None p k s e = (refl, e)

module _ {Val : Field → Type 0} {B : Type 0} (b : Configs Val B) where
  abbrev pub Table : Type 0
  Table = ℕ → Option (Config Val B)

  -- how many records the table holds, and how many merges they are worth
  abbrev pub held : Table → ℕ
  held t = tally b.size (λ i. 1) (λ i. has (t i))

  abbrev pub worth : Table → ℕ
  worth t = tally b.size (λ i. length (b.entries i)) (λ i. has (t i))

  -- What holds of a table between loads: each config in it is the flat one of its line; each way up from it ends within as many
  -- steps as the table holds records; its line is in the table.
  pub record Sound (t : Table) : Type 0 where
    pub value : (p : ℕ) (x : Config Val B) → t p ≡ Some x → x ≡ flat_line b p
    pub short : (p : ℕ) → has (t p) ≡ true → Within b (held t) p
    pub closed : (p i : ℕ) → has (t p) ≡ true → elem i (above b p) ≡ true → has (t i) ≡ true

  -- no record on the chain is in the table
  abbrev pub Clear : (ℕ → Bool) → Table → Type 0
  Clear chain t = (i : ℕ) → chain i ≡ true → has (t i) ≡ false

  -- What a part of the load does: it adds the records of the list `new`, and counts `made` merges besides theirs.
  pub record Step (chain : ℕ → Bool) (s t : State Val B) (new : List ℕ) (made : ℕ) : Type 0 where
    pub sound : Sound t.table
    pub clear : Clear chain t.table
    pub domain : (i : ℕ) → has (t.table i) ≡ has (s.table i) || elem i new
    pub counts : t.merges + worth s.table ≡ s.merges + made + worth t.table

  -- what a load of the record p has given
  abbrev pub Gives : (ℕ → Bool) → ℕ → State Val B → Loaded Val B → Type 0
  Gives chain p s r = (r.config ≡ flat_line b p) × Step chain s r.state (line b p) 0

  -- `one` loads each record that is not in the table
  abbrev pub Loads : (ℕ → Bool) → (ℕ → State Val B → Answer (Loaded Val B)) → Type 0
  Loads chain one =
      (p : ℕ) (s : State Val B) (r : Loaded Val B) → p < b.size → Sound s.table → Clear chain s.table → has (s.table p) ≡ false →
      one p s ≡ given r → Gives chain p s r

  -- the parent is in the table
  step_held :
      (chain : ℕ → Bool) (p : ℕ) (s : State Val B) → Sound s.table → Clear chain s.table → has (s.table p) ≡ true →
      Step chain s s (line b p) 0
  step_held chain p s h k m =
      record {
        sound = h;
        clear = k;
        domain = λ i. or_absorb (has (s.table i)) (elem i (line b p)) (in_line i (eqb i p) refl);
        counts = omega arith;
      }
    where
      in_line : (i : ℕ) (t : Bool) → eqb i p ≡ t → t || elem i (above b p) ≡ true → has (s.table i) ≡ true
      in_line i true e q = rw (eqb-true i p e) m
      in_line i false e q = h.closed p i m q

  parent_step :
      (chain : ℕ → Bool) (one : ℕ → State Val B → Answer (Loaded Val B)) → Loads chain one → (p : ℕ) (s : State Val B) (r : Loaded Val B) →
      p < b.size → Sound s.table → Clear chain s.table → (o : Option (Config Val B)) → s.table p ≡ o → recall o (one p) s ≡ given r →
      Gives chain p s r
  parent_step chain one ld p s r lt h k (Some y) e q =
      subst (Gives chain p s) (given_same q) (h.value p y e, step_held chain p s h k (ap has e))
  parent_step chain one ld p s r lt h k None e q = ld p s r lt h k (ap has e) q

  -- nothing done
  step_none : (chain : ℕ → Bool) (s : State Val B) → Sound s.table → Clear chain s.table → Step chain s s [] 0
  step_none chain s h k = record { sound = h; clear = k; domain = λ i. sym (or-false (has (s.table i))); counts = omega arith }

  -- two parts, with a merge between them
  step_then :
      (chain : ℕ → Bool) (s u t : State Val B) (p : ℕ) (ps : List ℕ) (made : ℕ) → Step chain s u (line b p) 0 →
      Step chain (counted u) t (lines (above b) ps) made → Step chain s t (lines (above b) (p ∷ ps)) (suc made)
  step_then chain s u t p ps made f g =
      record { sound = g.sound; clear = g.clear; domain = dom; counts = omega (arith, f.counts, g.counts) }
    where
      dom : (i : ℕ) → has (t.table i) ≡ has (s.table i) || elem i (lines (above b) (p ∷ ps))
      dom i =
          let l : List ℕ = lines (above b) ps in
          let m : List ℕ = above b p in
          g.domain i ∙ ap (◌|| elem i l) (f.domain i) ∙ or_assoc (has (s.table i)) (elem i (p ∷ m)) (elem i l)
          ∙ ap (has (s.table i) ||◌) (or_assoc (eqb i p) (elem i m) (elem i l) ∙ ap (eqb i p ||◌) (sym (elem_append i m l)))

  -- The parents in turn: what the record c had come to was the flat config of c and the records `pre`.
  walk_step :
      (chain : ℕ → Bool) (one : ℕ → State Val B → Answer (Loaded Val B)) → Loads chain one → (c : ℕ) (es : List Entry) →
      ((p : ℕ) → Memᴰ p (led es) → p < b.size) → (pre : List ℕ) (x : Config Val B) (s : State Val B) →
      x ≡ flat (b.own c) (map b.own pre) → Sound s.table → Clear chain s.table → (r : Loaded Val B) → walk one c es x s ≡ given r →
      (r.config ≡ flat (b.own c) (map b.own (pre ++ lines (above b) (led es)))) × Step chain s r.state (lines (above b) (led es)) (length es)
  walk_step chain one ld c [] lt pre x s e h k r q =
      subst
      (λ (r : Loaded Val B). (r.config ≡ flat (b.own c) (map b.own (pre ++ []))) × Step chain s r.state [] 0)
      (given_same q)
      (e ∙ ap (λ l. flat (b.own c) (map b.own l)) (sym (append-nil pre)), step_none chain s h k)
  walk_step chain one ld c (empty ∷ es) lt pre x s e h k r q = absurd (refused_given q)
  walk_step chain one ld c (bare ∷ es) lt pre x s e h k r q = absurd (refused_given q)
  walk_step chain one ld c (missing ∷ es) lt pre x s e h k r q = absurd (refused_given q)
  walk_step chain one ld c (leads p ∷ es) lt pre x s e h k r q =
      let (v, q₁, q₂) = then_given (recall (s.table p) (one p) s) (λ v. walk one c es (merge x v.config) (counted v.state)) q in
      let (zs, st) = parent_step chain one ld p s v (lt p (Memᴰ.head refl)) h k (s.table p) refl q₁ in
      let now : merge x v.config ≡ flat (b.own c) (map b.own (pre ++ line b p)) =
      ap₂ merge e zs ∙ sym (flat_append (b.own c) (map b.own pre) (b.own p) (map b.own (above b p)))
      ∙ ap (flat (b.own c)) (sym (map-append b.own pre (line b p)))
      in
      let (ys, su) =
      walk_step chain one ld c es (λ p' m. lt p' (Memᴰ.tail m)) (pre ++ line b p) (merge x v.config) (counted v.state) now st.sound
      st.clear r q₂
      in (
        ys ∙ ap (λ l. flat (b.own c) (map b.own l)) (append_assoc pre (line b p) (lines (above b) (led es))),
        step_then chain s v.state r.state p (led es) (length es) st su,
      )

  -- The record itself, once its parents are walked.
  module _
      (chain : ℕ → Bool) (c : ℕ) (s t : State Val B) (x : Config Val B) (lt : c < b.size) (off : chain c ≡ false)
      (xs : x ≡ flat (b.own c) (map b.own (lines (above b) (parents b c))))
      (w : Step (add c chain) s t (lines (above b) (parents b c)) (length (reverse (b.entries c)))) where
    put_has : (i : ℕ) → has ((put c x t).table i) ≡ eqb i c || has (t.table i)
    put_has i = has_put (eqb i c) x (t.table i)

    put_tally : (f : ℕ → ℕ) → tally b.size f (λ i. has ((put c x t).table i)) ≡ f c + tally b.size f (λ i. has (t.table i))
    put_tally f =
        tally_ext b.size f put_has ∙ tally_add f (λ i. has (t.table i)) c (w.clear c (add_self c chain)) b.size lt

    put_held : held (put c x t).table ≡ suc (held t.table)
    put_held = omega (arith, put_tally (λ i. 1))

    -- a record of the parents' lines is in the table
    parents_in : (i : ℕ) → elem i (lines (above b) (parents b c)) ≡ true → has (t.table i) ≡ true
    parents_in i m = w.domain i ∙ or_right (has (s.table i)) _ m

    self_within : Within b (suc (held t.table)) c
    self_within p m = w.sound.short p (parents_in p (lines_mem (above b) p (parents b c) m))

    self_above : above b c ≡ lines (above b) (parents b c)
    self_above =
        rest_step b (suc (held t.table)) b.size c
        (omega (arith, tally_le b.size (λ i. has ((put c x t).table i)), put_held)) self_within

    self_value : x ≡ flat_line b c
    self_value = xs ∙ ap (λ l. flat (b.own c) (map b.own l)) (sym self_above)

    put_value : (p : ℕ) (y : Config Val B) (a : Bool) → eqb p c ≡ a → cond a (Some x) (t.table p) ≡ Some y → y ≡ flat_line b p
    put_value p y true e q = let z : y ≡ x = cc in rw (eqb-true p c e) (z ∙ self_value)
    put_value p y false e q = w.sound.value p y q

    put_short : (p : ℕ) (a : Bool) → eqb p c ≡ a → a || has (t.table p) ≡ true → Within b (held (put c x t).table) p
    put_short p true e q = rw (eqb-true p c e, put_held) self_within
    put_short p false e q = within_more b (held t.table) (held (put c x t).table) p (omega (arith, put_held)) (w.sound.short p q)

    put_closed :
        (p i : ℕ) (a : Bool) → eqb p c ≡ a → a || has (t.table p) ≡ true → elem i (above b p) ≡ true → has (t.table i) ≡ true
    put_closed p i true e q m = parents_in i (ap (elem i) (sym self_above) ∙ (rw (eqb-true p c e) at m))
    put_closed p i false e q m = w.sound.closed p i q m

    put_sound : Sound (put c x t).table
    put_sound =
        record {
          value = λ p y q. put_value p y (eqb p c) refl q;
          short = λ p q. put_short p (eqb p c) refl (sym (put_has p) ∙ q);
          closed = λ p i q m. put_has i ∙ or_right (eqb i c) _ (put_closed p i (eqb p c) refl (sym (put_has p) ∙ q) m);
        }

    put_clear : (i : ℕ) → chain i ≡ true → has ((put c x t).table i) ≡ false
    put_clear i m =
        put_has i ∙ ap₂ ◌||◌ (ne_eqb i c (λ q. true≢false (sym (rw q at m) ∙ off))) (w.clear i (or_right (eqb i c) _ m))

    put_domain : (i : ℕ) → has ((put c x t).table i) ≡ has (s.table i) || elem i (line b c)
    put_domain i =
        put_has i ∙ ap (eqb i c ||◌) (w.domain i)
        ∙ or_swap (eqb i c) (has (s.table i)) (elem i (lines (above b) (parents b c)))
        ∙ ap (λ l. has (s.table i) || (eqb i c || elem i l)) (sym self_above)

    put_step : Step chain s (put c x t) (line b c) 0
    put_step =
        record {
          sound = put_sound;
          clear = put_clear;
          domain = put_domain;
          counts = omega (arith, w.counts, put_tally (λ i. length (b.entries i)), length-reverse (b.entries c));
        }

  -- the chain with c on it is clear too
  clear_add :
      (chain : ℕ → Bool) (c : ℕ) (t : Table) → Clear chain t → has (t c) ≡ false → (i : ℕ) (a : Bool) → eqb i c ≡ a → a || chain i ≡ true →
      has (t i) ≡ false
  clear_add chain c t k out i true e m = rw (eqb-true i c e) out
  clear_add chain c t k out i false e m = k i m

  pub start_sound : Sound (λ i. None)
  start_sound =
      record {
        value = λ p x e. absurd (none_some e);
        short = λ p e. absurd (false≢true e);
        closed = λ p i e m. absurd (false≢true e);
      }

  -- The asked config loads: its config is the flat one of its line, the table holds the line's records and no others, and the merges
  -- are those of these records, each once. The line of each record of it is itself, then the lines of its parents.
  pub record Whole (c : ℕ) (r : Loaded Val B) : Type 0 where
    pub flattened : r.config ≡ flat_line b c
    pub members : (i : ℕ) → has (r.state.table i) ≡ elem i (line b c)
    pub values : (i : ℕ) (x : Config Val B) → r.state.table i ≡ Some x → x ≡ flat_line b i
    pub counted : r.state.merges ≡ entries_of b (line b c)
    pub unrolled : (i : ℕ) → elem i (line b c) ≡ true → line b i ≡ i ∷ lines (above b) (parents b i)
    pub acyclic : (i : ℕ) → elem i (line b c) ≡ true → elem i (above b i) ≡ false
    pub settled : (i k : ℕ) → elem i (line b c) ≡ true → b.size ≤ k → rest b k i ≡ above b i

  module _ (inside : (c p : ℕ) → Memᴰ p (parents b c) → p < b.size) where
    -- the record c, off the chain and not in the table, where `one` loads its parents
    fresh_step :
        (chain : ℕ → Bool) (one : ℕ → State Val B → Answer (Loaded Val B)) (c : ℕ) → Loads (add c chain) one → (s : State Val B) (r v : Loaded Val B) →
        c < b.size → chain c ≡ false → Sound s.table → Clear chain s.table → has (s.table c) ≡ false →
        walk one c (reverse (b.entries c)) (b.own c) s ≡ given v → done v.config (put c v.config v.state) ≡ given r → Gives chain c s r
    fresh_step chain one c ld s r v lt off h n out q e =
        let (xs, w) =
        walk_step (add c chain) one ld c (reverse (b.entries c)) (inside c) [] (b.own c) s (sym (flat_one (b.own c))) h
        (λ i m. clear_add chain c s.table n out i (eqb i c) refl m) v q
        in
        subst (Gives chain c s) (given_same e)
        (self_value chain c s v.state v.config lt off xs w, put_step chain c s v.state v.config lt off xs w)

    pub load_step : (k : ℕ) (chain : ℕ → Bool) → Loads chain (load_by b k chain)
    unfolding load_by
    load_step zero chain c s r lt h n out q = absurd (refused_given q)
    load_step (suc k) chain c s r lt h n out q =
        let (Free-of, q₁) = unless_given (refusal b chain c) c (fresh b (load_by b k (add c chain)) c) s q in
        let (v, q₂, q₃) =
        then_given (walk (load_by b k (add c chain)) c (reverse (b.entries c)) (b.own c) s)
        (λ v. done v.config (put c v.config v.state)) q₁
        in
        fresh_step chain (load_by b k (add c chain)) c (load_step k (add c chain)) s r v lt (off_chain (chain c) (unread (b.entries c)) Free-of) h n
        out q₂ q₃

    pub whole : (c : ℕ) (r : Loaded Val B) → c < b.size → load_asked b c ≡ given r → Whole c r
    unfolding load
    whole c r lt q =
        let (e, st) = load_step (free b (λ i. false)) (λ i. false) c start r lt start_sound (λ i m. absurd (false≢true m)) refl q in
        let weight : ℕ → ℕ = λ i. length (b.entries i) in
        let few : held r.state.table ≤ b.size = tally_le b.size (λ i. has (r.state.table i)) in
        let short : (i : ℕ) → elem i (line b c) ≡ true → Within b (held r.state.table) i = λ i m. st.sound.short i (st.domain i ∙ m) in
        record {
          flattened = e;
          members = st.domain;
          values = st.sound.value;
          counted =
              omega (
                arith,
                st.counts,
                tally_none b.size weight,
                tally_ext b.size weight {d = λ i. has (r.state.table i)} {e = λ i. elem i (line b c)} st.domain,
                tally_distinct b.size weight (line b c) (lt, rest_below b inside b.size c),
              );
          unrolled = λ i m. ap (i ∷◌) (rest_step b (held r.state.table) b.size i few (short i m));
          acyclic = λ i m. no_circle b (held r.state.table) b.size i (short i m);
          settled =
              λ i k m le. rest_same b (held r.state.table) k i (omega arith) (short i m)
              ∙ sym (rest_same b (held r.state.table) b.size i few (short i m));
        }
