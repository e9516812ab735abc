-- What the keys of a record give for a specifier, once their targets are built, and how much that is. Assumes nothing.
use Rattle.std.proofs.Common.{◌≡◌, ℕ, ◌-◌, ◌*◌, ◌≤◌, Bool, true, false, ◌&&◌, cond, List, [], ◌∷◌, map, length, drop, Option, Some, None, IfSome, option_map, refl, sym, ap, subst, ◌∙◌, true≢false, length-take, length-drop, arith}
use Rattle.record.proofs.Short.{targets_short}
use Rattle.std.proofs.lemmas.Bool.{and_parts}
use Rattle.std.specs.Prelude.{unwrap_or}
use lib.ListN.{length-map}
use Rattle.text.specs.Bytes.{Text}
use Rattle.text.specs.Text.{same_text, star_of, each_of}
use Rattle.text.proofs.Picks.{by_test}
use Rattle.keys.specs.Keys.{suffix, matches_at, part_at, key_part, is_match}
use Rattle.book.specs.declared.Cmd.{Cmd}
use Rattle.book.specs.Command.{key}
use Rattle.book.specs.Record.{Key, is, keys_of}
use Rattle.book.specs.Sound.{All, nil, cons}
use Rattle.record.specs.Read.{is_short}
use Rattle.tsconfig.specs.Build.{adjusted}
use Rattle.tsconfig.specs.Laid.{laid}
use Rattle.tsconfig.specs.Mapping.{equal_key, longer, best_key, filled, from_best, from_equal, from_paths}
use Rattle.values.proofs.Lengths.{targets_length}
use Rattle.choice.specs.Keyed.{built_key}
use Rattle.targets.specs.Targets.{target_as, EachShort}
use Rattle.targets.proofs.Aims.{laid_length}

-- Building keeps the keys, so that it changes no choice

module _ (dir base s : Text) where
  abbrev build : Key → Key
  build k = built_key dir base k

  pub equal_built : (ks : List Key) → equal_key s (map build ks) ≡ option_map build (equal_key s ks)
  unfolding equal_key
  equal_built [] = refl
  equal_built (k ∷ ks) = by_test (same_text k.key s) (λ t. rw t) (λ f. rw f (equal_built ks))

  longer_built : (b : Option Key) (k : Key) → longer (option_map build b) (build k) ≡ longer b k
  unfolding longer
  longer_built None k = refl
  longer_built (Some b) k = refl

  taken_built : (x : Bool) (b : Option Key) (k : Key) → cond x (Some (build k)) (option_map build b) ≡ option_map build (cond x (Some k) b)
  taken_built true b k = refl
  taken_built false b k = refl

  pub best_built : (b : Option Key) (ks : List Key) → best_key s (option_map build b) (map build ks) ≡ option_map build (best_key s b ks)
  unfolding best_key
  best_built b [] = refl
  best_built b (k ∷ ks) =
      ap (λ (x : Bool). best_key s (cond (is_match (key_part k.key s) && x) (Some (build k)) (option_map build b)) (map build ks)) (longer_built b k)
      ∙ ap (λ (o : Option Key). best_key s o (map build ks)) (taken_built (is_match (key_part k.key s) && longer b k) b k)
      ∙ best_built (cond (is_match (key_part k.key s) && longer b k) (Some k) b) ks

-- What holds of each key holds of one that was chosen

module _ (P : Key → Type 0) where
  equal_holds : (s : Text) (ks : List Key) → All P ks → IfSome (equal_key s ks) P
  unfolding equal_key
  equal_holds s [] h = tt
  equal_holds s (k ∷ ks) (cons p h) = by_test (same_text k.key s) (λ t. rw t p) (λ f. rw f (equal_holds s ks h))

  best_holds : (s : Text) (b : Option Key) (ks : List Key) → IfSome b P → All P ks → IfSome (best_key s b ks) P
  unfolding best_key
  best_holds s b [] q h = q
  best_holds s b (k ∷ ks) q (cons p h) =
      by_test (is_match (key_part k.key s) && longer b k)
      (λ t. rw t (best_holds s (Some k) ks p h))
      (λ f. rw f (best_holds s b ks q h))

-- the best wildcard matches
best_matches : (s : Text) (b : Option Key) (ks : List Key) → IfSome b (λ k. is_match (key_part k.key s) ≡ true) → IfSome (best_key s b ks) (λ k. is_match (key_part k.key s) ≡ true)
unfolding best_key
best_matches s b [] q = q
best_matches s b (k ∷ ks) q =
    by_test (is_match (key_part k.key s) && longer b k)
    (λ t. rw t (best_matches s (Some k) ks (and_parts (is_match (key_part k.key s)) (longer b k) t).0))
    (λ f. rw f (best_matches s b ks q))

-- What the star stood for is no longer than the specifier

part_at_length : (f : Option ℕ) (k s : Text) → IfSome (part_at f k s) (λ p. length p ≤ length s)
unfolding part_at
part_at_length None k s = tt
part_at_length (Some i) k s =
    by_test (matches_at k i s)
    (λ t. rw t (omega (arith, length-take (length s - length (suffix k i) - i) (drop i s), length-drop i s)))
    (λ f. rw f tt)

pub part_length : (k s : Text) → IfSome (key_part k s) (λ p. length p ≤ length s)
unfolding key_part
part_length k s = part_at_length (star_of k) k s

pub part_short : (s : Text) (o : Option Text) → IfSome o (λ p. length p ≤ length s) → length s ≤ 512 → IfSome o (λ p. length p ≤ 512)
part_short s None h l = tt
part_short s (Some p) h l = omega (arith, h, l)

-- The keys of good commands

module _ (text : Text) (n : ℕ) where
  -- a key has at most n targets, and they are short
  pub record FewKey (k : Key) : Type 0 where
    pub short : EachShort k.targets
    pub few : length k.targets ≤ n

  keys_few : (r : List Cmd) → each_of (is_short 512 text) r ≡ true → length r ≤ n → All FewKey (keys_of text r)
  unfolding keys_of each_of
  keys_few [] h l = nil
  keys_few (c ∷ r) h l =
      let more = (and_parts (is_short 512 text c) (each_of (is_short 512 text) r) h).1 in
      by_test (is key c)
      (λ t. rw t (cons (record { short = targets_short 512 text r more; few = omega (arith, l, targets_length text r) }) (keys_few r more (omega (arith, l)))))
      (λ f. rw f (keys_few r more (omega (arith, l))))

  module _ (r : List Cmd) (h : each_of (is_short 512 text) r ≡ true) (l : length r ≤ n) (spec : Text) where
    pub equal_small : (k : Key) → equal_key spec (keys_of text r) ≡ Some k → FewKey k
    equal_small k e = subst (λ (o : Option Key). IfSome o FewKey) e (equal_holds FewKey spec (keys_of text r) (keys_few r h l))

    pub best_small : (k : Key) → best_key spec None (keys_of text r) ≡ Some k → FewKey k
    best_small k e = subst (λ (o : Option Key). IfSome o FewKey) e (best_holds FewKey spec None (keys_of text r) tt (keys_few r h l))

-- What is to be written: the targets of the key that is chosen

module _ (dir base spec : Text) (ks : List Key) where
  -- what is to be written
  abbrev pub wanted : List Text
  wanted = from_paths spec (Some (map (built_key dir base) ks))

  as_built : (ts : List Text) → map (target_as dir base None) ts ≡ map (adjusted dir base) ts
  unfolding target_as
  as_built [] = refl
  as_built (t ∷ ts) = ap (λ l. adjusted dir base t ∷ l) (as_built ts)

  as_filled : (part : Text) (ts : List Text) → map (target_as dir base (Some part)) ts ≡ map (filled part) (map (adjusted dir base) ts)
  unfolding target_as
  as_filled part [] = refl
  as_filled part (t ∷ ts) = ap (λ l. filled part (adjusted dir base t) ∷ l) (as_filled part ts)

  pub equal_wanted : (k : Key) → equal_key spec ks ≡ Some k → map (target_as dir base None) k.targets ≡ wanted
  unfolding from_paths from_equal
  equal_wanted k e = as_built k.targets ∙ sym (rw (equal_built dir base spec ks, e))

  module _ (n : equal_key spec ks ≡ None) where
    by_best : wanted ≡ from_best spec (option_map (built_key dir base) (best_key spec None ks))
    unfolding from_paths from_equal
    by_best = rw (equal_built dir base spec ks, n) (ap (from_best spec) (best_built dir base spec None ks))

    pub none_wanted : best_key spec None ks ≡ None → wanted ≡ []
    unfolding from_best
    none_wanted e = by_best ∙ rw e

    module _ (k : Key) (e : best_key spec None ks ≡ Some k) where
      by_part : (o : Option Text) → is_match o ≡ true → map (target_as dir base o) k.targets ≡ map (filled (unwrap_or o [])) (map (adjusted dir base) k.targets)
      by_part None h = absurd (true≢false (sym h))
      by_part (Some part) h = as_filled part k.targets

      pub best_wanted : (part : Option Text) → part ≡ key_part k.key spec → map (target_as dir base part) k.targets ≡ wanted
      unfolding from_best
      best_wanted part d =
          let m : is_match (key_part k.key spec) ≡ true = subst (λ (o : Option Key). IfSome o (λ x. is_match (key_part x.key spec) ≡ true)) e (best_matches spec None ks tt) in
          ap (λ (o : Option Text). map (target_as dir base o) k.targets) d ∙ by_part (key_part k.key spec) m ∙ sym (by_best ∙ ap (λ o. from_best spec (option_map (built_key dir base) o)) e)

-- How much it is

-- at most n paths, none of them long
pub record Few (n : ℕ) (ts : List Text) : Type 0 where
  pub count : length ts ≤ n
  pub size : length (laid ts) ≤ 6002 * n

pub few_none : {n : ℕ} {ts : List Text} → ts ≡ [] → Few n ts
unfolding laid
few_none {n} {ts} e = rw e (record { count = omega arith; size = omega arith })

module _ (text dir base spec : Text) (n : ℕ) (d : length dir ≤ 512) (b : length base ≤ 1600) (c : length spec ≤ 512) (r : List Cmd) (h : each_of (is_short 512 text) r ≡ true) (l : length r ≤ n) where
  targets_few : (part : Option Text) → IfSome part (λ p. length p ≤ 512) → (k : Key) → FewKey text n k → Few n (map (target_as dir base part) k.targets)
  targets_few part p k f = record {
    count = omega (arith, f.few, length-map k.targets (target_as dir base part));
    size = omega (arith, f.few, laid_length dir base part (record { dir_short = d; base_short = b; part_short = p }) k.targets f.short);
  }

  best_few : equal_key spec (keys_of text r) ≡ None → (o : Option Key) → best_key spec None (keys_of text r) ≡ o → Few n (wanted dir base spec (keys_of text r))
  best_few e None q = few_none (none_wanted dir base spec (keys_of text r) e q)
  best_few e (Some k) q =
      rw (← best_wanted dir base spec (keys_of text r) e k q (key_part k.key spec) refl)
      (targets_few (key_part k.key spec) (part_short spec (key_part k.key spec) (part_length k.key spec) c) k (best_small text n r h l spec k q))

  equal_few : (o : Option Key) → equal_key spec (keys_of text r) ≡ o → Few n (wanted dir base spec (keys_of text r))
  equal_few None q = best_few q (best_key spec None (keys_of text r)) refl
  equal_few (Some k) q = rw (← equal_wanted dir base spec (keys_of text r) k q) (targets_few None tt k (equal_small text n r h l spec k q))

  pub paths_few : Few n (wanted dir base spec (keys_of text r))
  paths_few = equal_few (equal_key spec (keys_of text r)) refl
