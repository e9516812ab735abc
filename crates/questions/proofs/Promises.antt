-- Demand 3 of what the entries return. Assumes nothing.
use mathlib.Core.Path.{◌≡◌, refl, sym, ap, subst, ◌∙◌}
use mathlib.Core.List.{List, [], ◌∷◌, ◌++◌, map, reverse, append_assoc}
use mathlib.Core.Bool.{Bool, true, false, ◌||◌}
use Rattle.std.specs.Prelude.{Option, Some, None, Ok}
use Prim.Native.Nat.{ℕ, zero, suc, ◌+◌, ◌-◌, ◌%◌, ◌/◌, ◌<◌, ◌≤◌}
use native.Mathlib.Omega.{arith}
use lib.ListN.{length, take, drop, length-append, length-map, length-reverse}
use lib.Dec.{eqb, leb, ltb}
use Rattle.text.specs.Bytes.{Text, dot}
use Rattle.names.specs.Names.{tsconfig_json}
use Rattle.components.specs.Components.{starts, inside_node_modules, components}
use Rattle.join.specs.Join.{push_of}
use Rattle.text.proofs.Picks.{by_test}
use Rattle.book.specs.declared.Cmd.{Cmd}
use Rattle.book.specs.Answer.{Answer, refused, given, ◌>>=◌, unless}
use Rattle.book.specs.Command.{Decoded, ended, broken, command, decode, decode_at, width_of, no_command, end}
use Rattle.book.specs.Rules.{Before, fault}
use Rattle.book.specs.Book.{next, finish, judge, nothing, verdict}
use Rattle.book.specs.Find.{find, locate}
use Rattle.book.specs.Sound.{All, nil, cons}
use Rattle.path_rules.specs.Paths.{asked_path}
use Rattle.tsconfig.specs.Parsed.{Parsed, parsed}
use Rattle.tsconfig.specs.Claims.{claims_ownership, solution}
use Rattle.tsconfig.specs.Build.{Settings}
use Rattle.tsconfig.specs.Mapping.{candidates, tries}
use Rattle.tsconfig.proofs.Tries.{candidates_lead}
use Rattle.tsconfig_resolver.specs.Find.{paths_of, reached, seen}
use Rattle.tsconfig_resolver.specs.Project.{Project, Owner, load_record, load_found, load_path, owner_of, owner_from, owner_at, owned, folders}
use Rattle.tsconfig_resolver.specs.Line.{line, entries_of}
use Rattle.tsconfig_resolver.proofs.Inside.{Fits, find_below, locate_below}
use Rattle.rows.specs.Records.{records_of, parsed_of}
use Rattle.rows.proofs.Books.{accepted_small}
use Rattle.tsconfig.specs.Laid.{laid}
use Rattle.replies.specs.Replies.{Outcome, Reply, fit, listed, returned, output, numbers_of, numbers_by, AnsweredAs, Told}
use Rattle.build_reply.specs.Reply.{build_reply}
use Rattle.paths_reply.specs.Paths.{paths_by}
use Rattle.questions.specs.Questions.{asked, book, build, owner, owner_reply, tsconfig_build, tsconfig_owner, tsconfig_candidates, tsconfig_tries}
use Rattle.questions.specs.Replies.{asked_for, tsconfig_paths}
use Rattle.questions.specs.Numbered.{Numbered}
use Rattle.questions.specs.Demand3.{flat_site, Inherits}
use Rattle.questions.specs.Promises.{Loads, flat_listing, flat_after, BuildInherits, PathsInherit, CandidatesInherit, TriesInherit, OneStory, OwnerInherits, Passed, c_numbers}
use Rattle.replies.specs.declared.Given.{Given}
use Rattle.replies.specs.declared.Numbers.{Numbers}
use Rattle.questions.proofs.Demand3.{refused_given, given_same, then_given, inherits}
use Rattle.questions.proofs.Numbered.{build_numbered, owner_numbered, candidates_numbered, tries_numbered}
use Rattle.replies.proofs.Replies.{listed_reply, told_by}
use Rattle.questions.proofs.Replies.{paths_asked}

none_some : {A : Type 0} (o : A) → None ≡ Some o → ⊥
none_some o x = let z : ◌≡◌ {A = ℕ} 0 1 = cc in omega (arith, z)

either : {X : Type 1} (b : Bool) → (b ≡ true → X) → (b ≡ false → X) → X
either true t f = t refl
either false t f = f refl

-- What is not refused

-- a number of 0 stands for an answer
answered : (o : Outcome) (r : Numbers) → Numbered o → numbers_of r ≡ returned o → r.number ≡ 0 → (a : Reply) × (o ≡ given a)
unfolding returned
answered (refused k p) r h e z = absurd (omega (arith, h.0, head e, z))
  where
    head : numbers_of r ≡ returned (refused k p) → r.number ≡ k
    head x = cc
answered (given a) r h e z = (a, refl)

record Same (a : Reply) (r : Numbers) : Type 0 where
  first : r.first ≡ a.first
  second : r.second ≡ a.second
  bytes : r.bytes ≡ length a.bytes

same : (o : Outcome) (a : Reply) (r : Numbers) → o ≡ given a → numbers_of r ≡ returned o → Same a r
unfolding returned
same o a r e n =
    let x : numbers_of r ≡ 0 ∷ 0 ∷ a.first ∷ a.second ∷ length a.bytes ∷ [] = n ∙ ap returned e in
    record { first = cc; second = cc; bytes = cc }

left : (o : Outcome) (a : Reply) (old new : Text) → o ≡ given a → new ≡ output o old → new ≡ a.bytes ++ drop (length a.bytes) old
unfolding output
left o a old new e u = u ∙ ap (λ (x : Outcome). output x old) e

asked_given : (ok : Bool) (o : Outcome) (a : Reply) → asked ok o ≡ given a → o ≡ given a
unfolding asked
asked_given true o a e = e
asked_given false o a e = absurd (refused_given e)

fit_given : (room : ℕ) (x a : Reply) → fit room x ≡ given a → a ≡ x
unfolding fit
fit_given room x a e = by_test (ltb room (length x.bytes)) (λ y. absurd (refused_given (rw y at e))) (λ f. sym (given_same (rw f at e)))

book_records : (commands text : Text) (rs : List Parsed) → book commands text ≡ given rs → rs ≡ records_of commands text
unfolding book records_of
book_records commands text rs e =
    let (cs, v, g) = then_given (verdict commands text) _ e in
    rw v (sym (given_same g))

same_some : {A : Type 0} {a b : A} → Some a ≡ Some b → a ≡ b
same_some e = cc

laid_append : (ts us : List Text) → laid (ts ++ us) ≡ laid ts ++ laid us
unfolding laid
laid_append [] us = refl
laid_append (t ∷ ts) us = ap (λ (x : Text). (length t % 256) ∷ (length t / 256) ∷ (t ++ x)) (laid_append ts us) ∙ ap (λ (x : Text). (length t % 256) ∷ (length t / 256) ∷ x) (sym (append_assoc t (laid ts) (laid us)))

take_first : (x y : Text) → take (length x) (x ++ y) ≡ x
take_first [] y = refl
take_first (b ∷ x) y = ap (λ (z : Text). b ∷ z) (take_first x y)

written_first : (new : Text) (k : ℕ) (x y : Text) → k ≡ length x → new ≡ x ++ y → take k new ≡ x
written_first new k x y e f = rw (e, f) (take_first x y)

module _ (commands text : Text) where
  abbrev rs : List Parsed
  rs = records_of commands text

  abbrev loads : (c : ℕ) (p : Project) → load_record rs c ≡ given p → Inherits rs c p → Loads rs c
  loads c p e i = record { project = p; loaded = e; inherits = i }

  -- what is left of a question once it is not refused: the config that is meant, its load, and what was made of it
  reached_by : (path : Text) (ok : Bool) (after : Project → Outcome) (a : Reply) → asked ok (load_path rs path >>= after) ≡ given a →
      (p : Project) × (load_path rs path ≡ given p) × (after p ≡ given a)
  reached_by path ok after a e = then_given (load_path rs path) after (asked_given ok (load_path rs path >>= after) a e)

  from_path : (path : Text) (p : Project) → load_path rs path ≡ given p → (c : ℕ) × (locate (paths_of rs) path ≡ Some c) × (load_record rs c ≡ given p) × Inherits rs c p
  unfolding load_path load_found
  from_path path p e = go (locate (paths_of rs) path) refl e
    where
      go : (o : Option ℕ) → locate (paths_of rs) path ≡ o → load_found rs o ≡ given p → (c : ℕ) × (locate (paths_of rs) path ≡ Some c) × (load_record rs c ≡ given p) × Inherits rs c p
      go None h x = absurd (refused_given x)
      go (Some c) h x = (c, h, x, inherits rs c p (subst (λ o. Fits (length rs) (reached o)) h (locate_below rs path)) x)

  -- What tsconfig_build promises

  pub build_inherits :
      (path : Text) (r : Numbers) (old new : Text) → Told (tsconfig_build commands text path (length old)) r old new → r.number ≡ 0 → BuildInherits rs path r old new
  unfolding tsconfig_build build
  build_inherits path r old new t z =
      let o = tsconfig_build commands text path (length old) in
      let (a, e) = answered o r (build_numbered commands text path (length old)) t.numbers z in
      let (qs, b, e₁) = then_given (book commands text) (λ x. build x (length old) path) e in
      let q : qs ≡ rs = book_records commands text qs b in
      let e₂ : build rs (length old) path ≡ given a = subst (λ (x : List Parsed). build x (length old) path ≡ given a) q e₁ in
      let (p, e₃, e₄) = reached_by path (asked_path path) (λ p. fit (length old) (build_reply rs p.site p.merges)) a e₂ in
      let (c, means, loaded, i) = from_path path p e₃ in
      let f : a ≡ build_reply rs p.site p.merges = fit_given (length old) (build_reply rs p.site p.merges) a e₄ in
      let g : a ≡ build_reply rs (flat_site rs c) p.merges = f ∙ ap (λ s. build_reply rs s p.merges) i.flattened in
      let s = same o a r e t.numbers in
      let n : r.first ≡ c = s.first ∙ ap (λ (x : Reply). x.first) g in
      let w : r.bytes ≡ length (flat_listing rs c) = s.bytes ∙ ap (λ (x : Reply). length x.bytes) g in
      record {
        means = means ∙ ap Some (sym n);
        loads = subst (Loads rs) (sym n) (loads c p loaded i);
        merges = s.second ∙ ap (λ (x : Reply). x.second) g ∙ i.merged ∙ ap (λ (x : ℕ). entries_of (seen rs) (line (seen rs) x)) (sym n);
        written = w ∙ ap (λ (x : ℕ). length (flat_listing rs x)) (sym n);
        output =
            left o a old new e t.bytes
            ∙ ap (λ (x : Reply). x.bytes ++ drop (length x.bytes) old) g
            ∙ ap (λ (k : ℕ). flat_listing rs c ++ drop k old) (sym w)
            ∙ ap (λ (x : ℕ). flat_listing rs x ++ drop r.bytes old) (sym n);
      }

  -- What tsconfig_candidates and tsconfig_tries promise

  module _ (directory : Option Text) (path s : Text) (r : Numbers) (old new : Text) where
    abbrev outcome : Outcome
    outcome = tsconfig_paths commands text path directory s (length old)

    abbrev asking : List Parsed → Outcome
    asking x = asked (asked_for path directory s) (load_path x path >>= λ p. listed (length old) (paths_by directory s p.site.config))

    paths_inherit : Told outcome r old new → Numbered outcome → r.number ≡ 0 → PathsInherit rs path (paths_by directory s) r old new
    unfolding listed
    paths_inherit t h z =
        let (a, e) = answered outcome r h t.numbers z in
        let (qs, b, e₁) = then_given (book commands text) asking (sym (paths_asked commands text path s (length old) directory) ∙ e) in
        let q : qs ≡ rs = book_records commands text qs b in
        let e₂ : asking rs ≡ given a = subst (λ (x : List Parsed). asking x ≡ given a) q e₁ in
        let (p, e₃, e₄) = reached_by path (asked_for path directory s) (λ p. listed (length old) (paths_by directory s p.site.config)) a e₂ in
        let (c, means, loaded, i) = from_path path p e₃ in
        let f : a ≡ listed_reply (paths_by directory s p.site.config) = fit_given (length old) (listed_reply (paths_by directory s p.site.config)) a e₄ in
        let g : a ≡ listed_reply (paths_by directory s (flat_site rs c).config) = f ∙ ap (λ x. listed_reply (paths_by directory s x.config)) i.flattened in
        let m = same outcome a r e t.numbers in
        let w : r.bytes ≡ length (laid (paths_by directory s (flat_site rs c).config)) = m.bytes ∙ ap (λ (x : Reply). length x.bytes) g in
        record {
          config = c;
          means = means;
          loads = loads c p loaded i;
          count = m.first ∙ ap (λ (x : Reply). x.first) g;
          written = w;
          output =
              left outcome a old new e t.bytes
              ∙ ap (λ (x : Reply). x.bytes ++ drop (length x.bytes) old) g
              ∙ ap (λ (k : ℕ). laid (paths_by directory s (flat_site rs c).config) ++ drop k old) (sym w);
        }

  module _ (path s : Text) (r : Numbers) (old new : Text) where
    pub candidates_inherit : Told (tsconfig_candidates commands text path s (length old)) r old new → r.number ≡ 0 → CandidatesInherit rs path s r old new
    candidates_inherit t z = paths_inherit None path s r old new t (candidates_numbered commands text path s (length old)) z

    pub tries_inherit : (directory : Text) → Told (tsconfig_tries commands text path directory s (length old)) r old new → r.number ≡ 0 → TriesInherit rs path directory s r old new
    tries_inherit directory t z = paths_inherit (Some directory) path s r old new t (tries_numbered commands text path directory s (length old)) z

  -- Where the specifier does not start with a dot and the directory is outside node_modules, the tries are the candidates and then the baseUrl path, if that is not among them
  pub one_story :
      (path directory s : Text) → inside_node_modules directory ≡ false → starts dot s ≡ false →
      (r : Numbers) (before new : Text) → Told (tsconfig_candidates commands text path s (length before)) r before new → r.number ≡ 0 →
      (q : Numbers) (old tried : Text) → Told (tsconfig_tries commands text path directory s (length old)) q old tried → q.number ≡ 0 →
      OneStory rs path s r new q old tried
  one_story path directory s outside plain r before new t z q old tried u y =
      let c = candidates_inherit path s r before new t z in
      let d = tries_inherit path s q old tried directory u y in
      let k : d.config ≡ c.config = same_some (sym d.means ∙ c.means) in
      let flat : ℕ → Settings = λ i. (flat_site rs i).config in
      let e : tries (flat d.config) directory s ≡ candidates (flat c.config) s ++ flat_after rs c.config s =
      ap (λ (i : ℕ). tries (flat i) directory s) k ∙ candidates_lead (flat c.config) directory s outside plain in
      record {
        config = c.config;
        means = c.means;
        count = d.count ∙ ap length e ∙ length-append (candidates (flat c.config) s) (flat_after rs c.config s) ∙ ap (λ (n : ℕ). n + length (flat_after rs c.config s)) (sym c.count);
        output =
            d.output
            ∙ ap (λ (ts : List Text). laid ts ++ drop q.bytes old) e
            ∙ ap (λ (x : Text). x ++ drop q.bytes old) (laid_append (candidates (flat c.config) s) (flat_after rs c.config s))
            ∙ append_assoc (laid (candidates (flat c.config) s)) (laid (flat_after rs c.config s)) (drop q.bytes old)
            ∙ ap (λ (x : Text). x ++ (laid (flat_after rs c.config s) ++ drop q.bytes old)) (sym (written_first new r.bytes (laid (candidates (flat c.config) s)) (drop r.bytes before) c.written c.output));
      }

  -- What tsconfig_owner promises

  module _ (path : Text) where
    -- the config of a folder
    one : (c : ℕ) → c < length rs → (o : Owner) (above : Answer (Option Owner)) → owner_at rs path (Some c) above ≡ given (Some o) →
        (above ≡ given (Some o) → OwnerInherits rs path o.found o.solved) → OwnerInherits rs path o.found o.solved
    unfolding owner_at owned
    one c lt o above e more =
        let (p, l, e₁) = then_given (load_record rs c) (λ q. owned path q above) e in
        let i = inherits rs c p lt l in
        either (claims_ownership path p.site p.references)
        (λ y.
        let g : Some (record { found = p.site.number; solved = solution path p.site p.references }) ≡ Some o = given_same (rw y at e₁) in
        let k : record { found = p.site.number; solved = solution path p.site p.references } ≡ o = cc in
        let n : o.found ≡ c = sym (ap (λ (x : Owner). x.found) k) ∙ ap (λ t. t.number) i.flattened in
        owns c lt p l i o n (sym (i.claimed_with path) ∙ y) (sym (ap (λ (x : Owner). x.solved) k) ∙ ap (λ t. solution path t p.references) i.flattened))
        (λ f. more (rw f at e₁))
      where
        owns : (c : ℕ) → c < length rs → (p : Project) → load_record rs c ≡ given p → Inherits rs c p → (o : Owner) → o.found ≡ c →
            claims_ownership path (flat_site rs c) p.references ≡ true → o.solved ≡ solution path (flat_site rs c) p.references →
            OwnerInherits rs path o.found o.solved
        owns c lt p l i o n y w = subst (λ (x : ℕ). OwnerInherits rs path x o.solved) (sym n) (record { inside = lt; loads = loads c p l i; claims = y; solution_is = w })

    find_fits : (d : Text) → Fits (length rs) (reached (find (push_of d tsconfig_json) (paths_of rs)))
    find_fits d = subst (λ (n : ℕ). Fits n (reached (find (push_of d tsconfig_json) (paths_of rs)))) (length-map rs (λ r. r.path)) (find_below (push_of d tsconfig_json) (paths_of rs))

    folder : (x : Option ℕ) → Fits (length rs) (reached x) → (o : Owner) (above : Answer (Option Owner)) →
        (above ≡ given (Some o) → OwnerInherits rs path o.found o.solved) → owner_at rs path x above ≡ given (Some o) → OwnerInherits rs path o.found o.solved
    unfolding owner_at
    folder None h o above more y = more y
    folder (Some c) h o above more y = one c h o above y more

    walks : (ds : List Text) (o : Owner) → owner_from rs path ds ≡ given (Some o) → OwnerInherits rs path o.found o.solved
    unfolding owner_from
    walks [] o e = absurd (none_some o (given_same e))
    walks (d ∷ ds) o e = folder (find (push_of d tsconfig_json) (paths_of rs)) (find_fits d) o (owner_from rs path ds) (walks ds o) e

    found : (r : Numbers) (a : Reply) (w : Option Owner) → owner_of rs path ≡ given w → owner_reply w ≡ given a → Same a r → (r.first ≡ 65535 → ⊥) → OwnerInherits rs path r.first r.second
    unfolding owner_of owner_reply
    found r a None e g s h = absurd (h (s.first ∙ sym (ap (λ (x : Reply). x.first) (given_same g))))
    found r a (Some o) e g s h =
        either (inside_node_modules path)
        (λ y. absurd (none_some o (given_same (rw y at e))))
        (λ f.
        let k = given_same g in
        let x : OwnerInherits rs path o.found o.solved = walks (folders (length (components path) - 1) path) o (rw f at e) in
        subst (λ (n : ℕ). OwnerInherits rs path n r.second) (ap (λ (y : Reply). y.first) k ∙ sym s.first)
        (subst (λ (n : ℕ). OwnerInherits rs path o.found n) (ap (λ (y : Reply). y.second) k ∙ sym s.second) x))

    -- the numbers of an owner, if one is found
    pub owner_inherits : (r : Numbers) → numbers_of r ≡ returned (tsconfig_owner commands text path) → r.number ≡ 0 → (r.first ≡ 65535 → ⊥) → OwnerInherits rs path r.first r.second
    unfolding tsconfig_owner owner owner_of
    owner_inherits r t z some-found =
        let o = tsconfig_owner commands text path in
        let (a, e) = answered o r (owner_numbered commands text path) t z in
        let (qs, b, e₁) = then_given (book commands text) (λ x. owner x path) e in
        let q : qs ≡ rs = book_records commands text qs b in
        let e₂ : owner rs path ≡ given a = subst (λ (x : List Parsed). owner x path ≡ given a) q e₁ in
        let (w, e₃, e₄) = then_given (owner_of rs path) owner_reply (asked_given (asked_path path) (owner_of rs path >>= owner_reply) a e₂) in
        let s = same o a r e t in
        found r a w e₃ e₄ s some-found

    -- where no owner is found, the config of each folder on the walk loads, and its flat config does not claim the path
    pub owner_passed : (ds : List Text) → owner_from rs path ds ≡ given None → All (Passed rs path) ds
    unfolding owner_from owner_at owned
    owner_passed [] e = nil
    owner_passed (d ∷ ds) e =
        let (x, more) = passes (find (push_of d tsconfig_json) (paths_of rs)) (find_fits d) (owner_from rs path ds) e in
        cons (record { passes = x }) (owner_passed ds more)
      where
        passes : (o : Option ℕ) → Fits (length rs) (reached o) → (above : Answer (Option Owner)) → owner_at rs path o above ≡ given None →
            ((c : ℕ) → o ≡ Some c → (p : Project) × (load_record rs c ≡ given p) × (claims_ownership path (flat_site rs c) p.references ≡ false)) × (above ≡ given None)
        passes None h above y = (λ c n. absurd (none_some c n), y)
        passes (Some b) h above y =
            let (p, l, g) = then_given (load_record rs b) (λ q. owned path q above) y in
            by_test (claims_ownership path p.site p.references)
            (λ t. absurd (none_some _ (sym (given_same (rw t at g)))))
            (λ f. (λ c n. let k : b ≡ c = cc in subst (λ (i : ℕ). (q : Project) × (load_record rs i ≡ given q) × (claims_ownership path (flat_site rs i) q.references ≡ false)) k (p, l, sym ((inherits rs b p h l).claimed_with path) ∙ f), rw f at g))

-- no record's number is 65,535, which stands for none

-- how many commands are decoded
decoded_count : Decoded → ℕ
decoded_count (ended at) = 0
decoded_count (broken at) = 0
decoded_count (command at c rest) = suc (decoded_count rest)

count_within : (k at : ℕ) (s : Text) → decoded_count (decode k at s) ≤ length s
unfolding decoded_count decode decode_at
count_within k at [] = omega arith
count_within zero at (x ∷ s) =
    by_test (eqb (width_of x) no_command) (λ y. rw y (omega arith))
    (λ f. by_test (leb (length (x ∷ s)) (width_of x)) (λ y. rw (f, y) (omega arith)) (λ g. rw (f, g) (omega (arith, count_within (width_of x) (suc at) s))))
count_within (suc k) at (x ∷ s) = omega (arith, count_within k (suc at) s)

records_next : (b : Before) (c : Cmd) → length (next b c).records ≤ suc (length b.records)
unfolding next
records_next b c = by_test (eqb c.op end) (λ y. rw y (omega arith)) (λ f. rw f (omega arith))

turn : {S : Type 0} {P : Type 0} (o : Option ℕ) (at : ℕ) (k : S → Answer (List (List Cmd))) (s : S) (rs : List (List Cmd)) → unless o at k s ≡ given rs → (k s ≡ given rs → P) → P
turn (Some n) at k s rs x h = absurd (refused_given x)
turn None at k s rs x h = h x

judged_few : (text : Text) (b : Before) (d : Decoded) (rs : List (List Cmd)) → judge text b d ≡ given rs → length rs ≤ length b.records + decoded_count d
unfolding judge finish decoded_count
judged_few text b (ended at) rs e =
    by_test (eqb (length b.here) 0)
    (λ y.
    let z : reverse (map reverse b.records) ≡ rs = given_same (rw y at e) in
    omega (arith, ap length z, length-reverse (map reverse b.records), length-map b.records reverse))
    (λ f. absurd (refused_given (rw f at e)))
judged_few text b (broken at) rs e = absurd (refused_given e)
judged_few text b (command at c rest) rs e = turn (fault text b c) at (λ n. judge text n rest) (next b c) rs e (λ x. omega (arith, judged_few text (next b c) rest rs x, records_next b c))

few_records : (commands text : Text) → length (records_of commands text) ≤ 32768
unfolding records_of verdict
few_records commands text = go (verdict commands text) refl
  where
    go : (o : Answer (List (List Cmd))) → verdict commands text ≡ o → length (parsed_of text o) ≤ 32768
    go (refused n p) e = omega arith
    go (given rs) e =
        by_test (ltb 32768 (length commands) || ltb 65535 (length text))
        (λ y. absurd (refused_given (rw y at e)))
        (λ f. omega (arith, length-map rs (parsed text), accepted_small commands text rs e, judged_few text nothing (decode 0 0 commands) rs (rw f at e), count_within 0 0 commands))

module _ (commands text path : Text) where
  none_found : (r : Numbers) (a : Reply) (w : Option Owner) → owner_of (records_of commands text) path ≡ given w → owner_reply w ≡ given a → Same a r → r.first ≡ 65535 → inside_node_modules path ≡ false →
      All (Passed (records_of commands text) path) (folders (length (components path) - 1) path)
  unfolding owner_of owner_reply
  none_found r a None e g s h f = owner_passed commands text path (folders (length (components path) - 1) path) (rw f at e)
  none_found r a (Some o) e g s h f =
      let x : OwnerInherits (records_of commands text) path o.found o.solved = walks commands text path (folders (length (components path) - 1) path) o (rw f at e) in
      let z : o.found ≡ 65535 = ap (λ (y : Reply). y.first) (given_same g) ∙ sym s.first ∙ h in
      absurd (omega (arith, z, x.inside, few_records commands text))

  -- what tsconfig_owner promises where it answers 65,535, outside node_modules
  pub owner_none : (r : Numbers) → numbers_of r ≡ returned (tsconfig_owner commands text path) → r.number ≡ 0 → r.first ≡ 65535 → inside_node_modules path ≡ false →
      All (Passed (records_of commands text) path) (folders (length (components path) - 1) path)
  unfolding tsconfig_owner owner
  owner_none r t z h f =
      let o = tsconfig_owner commands text path in
      let (a, e) = answered o r (owner_numbered commands text path) t z in
      let (qs, b, e₁) = then_given (book commands text) (λ x. owner x path) e in
      let q : qs ≡ records_of commands text = book_records commands text qs b in
      let e₂ : owner (records_of commands text) path ≡ given a = subst (λ (x : List Parsed). owner x path ≡ given a) q e₁ in
      let (w, e₃, e₄) = then_given (owner_of (records_of commands text) path) owner_reply (asked_given (asked_path path) (owner_of (records_of commands text) path >>= owner_reply) a e₂) in
      none_found r a w e₃ e₄ (same o a r e t) h f

-- The same of what the questions give: each theorem above, of an answer's numbers

module _ (commands text : Text) where
  told_c : (o : Outcome) (g : Given) (old new : Text) → AnsweredAs o (Ok g) old new → Told o (c_numbers g) old new
  told_c o g old new t = told_by o (Ok g) old new (c_numbers g) t refl

  -- what build promises
  pub build_given :
      (path : Text) (g : Given) (old new : Text) → AnsweredAs (tsconfig_build commands text path (length old)) (Ok g) old new → BuildInherits (records_of commands text) path (c_numbers g) old new
  build_given path g old new t = build_inherits commands text path (c_numbers g) old new (told_c _ g old new t) refl

  -- what candidates and tries promise
  pub candidates_given :
      (path s : Text) (g : Given) (old new : Text) → AnsweredAs (tsconfig_candidates commands text path s (length old)) (Ok g) old new → CandidatesInherit (records_of commands text) path s (c_numbers g) old new
  candidates_given path s g old new t = candidates_inherit commands text path s (c_numbers g) old new (told_c _ g old new t) refl

  pub tries_given :
      (path s directory : Text) (g : Given) (old new : Text) → AnsweredAs (tsconfig_tries commands text path directory s (length old)) (Ok g) old new →
      TriesInherit (records_of commands text) path directory s (c_numbers g) old new
  tries_given path s directory g old new t = tries_inherit commands text path s (c_numbers g) old new directory (told_c _ g old new t) refl

  pub one_story_given :
      (path directory s : Text) → inside_node_modules directory ≡ false → starts dot s ≡ false →
      (g : Given) (before new : Text) → AnsweredAs (tsconfig_candidates commands text path s (length before)) (Ok g) before new →
      (h : Given) (old tried : Text) → AnsweredAs (tsconfig_tries commands text path directory s (length old)) (Ok h) old tried →
      OneStory (records_of commands text) path s (c_numbers g) new (c_numbers h) old tried
  one_story_given path directory s outside plain g before new t h old tried u =
      one_story commands text path directory s outside plain (c_numbers g) before new (told_c _ g before new t) refl (c_numbers h) old tried (told_c _ h old tried u) refl

  -- what owner promises, where it finds one and where it does not
  pub owner_given :
      (path : Text) (g : Given) → numbers_by (Ok g) ≡ returned (tsconfig_owner commands text path) → (g.first ≡ 65535 → ⊥) → OwnerInherits (records_of commands text) path g.first g.second
  owner_given path g t some-found = owner_inherits commands text path (c_numbers g) t refl some-found

  pub owner_none_given :
      (path : Text) (g : Given) → numbers_by (Ok g) ≡ returned (tsconfig_owner commands text path) → g.first ≡ 65535 → inside_node_modules path ≡ false →
      All (Passed (records_of commands text) path) (folders (length (components path) - 1) path)
  owner_none_given path g t none outside = owner_none commands text path (c_numbers g) t refl none outside
