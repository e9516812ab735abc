-- The ways out of the entries. Assumes nothing.
use mathlib.Core.Path.{◌≡◌, refl, sym, ap, ◌∙◌}
use mathlib.Core.List.{List, [], ◌∷◌}
use mathlib.Core.Bool.{Bool, true, false, true≢false, ◌&&◌}
use Rattle.std.proofs.Common.{Bor}
use Rattle.std.specs.Prelude.{Option, Some, None, IfSome, option_copied, Result, Ok, Err}
use Prim.Native.Nat.{ℕ, ◌≤◌, ◌<◌}
use native.Mathlib.Omega.{arith}
use lib.Dec.{leb}
use lib.ListN.{length}
use borrow.Author.Tests.{leb-true}
use Rattle.text.specs.Bytes.{Text}
use Rattle.text.proofs.Picks.{by_test}
use Rattle.path_rules.specs.Paths.{asked_path}
use Rattle.strings.specs.Strings.{string_rule}
use Rattle.book.specs.Answer.{Answer, refused, given, ◌>>=◌}
use Rattle.book.specs.Book.{verdict}
use Rattle.book.specs.Find.{locate}
use Rattle.book.specs.Index.{AcceptedAs}
use Rattle.book.specs.declared.Refusal.{Refusal}
use Rattle.book.specs.declared.IndexRow.{IndexRow}
use Rattle.book.specs.Refusals.{refusal}
use Rattle.records.specs.Tables.{paths_in}
use Rattle.records.proofs.Paths.{locate_within}
use Rattle.tsconfig.specs.Parsed.{Parsed}
use Rattle.tsconfig_resolver.specs.Find.{paths_of}
use Rattle.tsconfig_resolver.specs.Project.{Project, load_record, load_found, load_path, owner_of}
use Rattle.rows.specs.Records.{records_of}
use Rattle.rows.specs.Rows.{site_of}
use Rattle.rows.specs.Checked.{records_in}
use Rattle.rows.specs.declared.CheckedBook.{CheckedBook}
use Rattle.replies.specs.Replies.{Outcome, returned, numbers_given, fit, listed}
use Rattle.replies.specs.declared.Given.{Given}
use Rattle.build_reply.specs.Reply.{build_reply}
use Rattle.paths_reply.specs.Paths.{paths_by}
use Rattle.owner.specs.Owned.{answered}
use Rattle.owner.specs.declared.Owner.{Owner}
use Rattle.questions.specs.Questions.{asked, book, build, candidates_of, tries_of, owner, owner_reply, tsconfig_build, tsconfig_owner, tsconfig_candidates, tsconfig_tries}
use Rattle.questions.specs.Replies.{asked_for, asked_load, tsconfig_paths, Ready, LoadsAs}
use Rattle.references.specs.References.{WholeAs}
use Rattle.references.specs.declared.Project.{Project as Loaded}

no_answer : {A X : Type 0} {n p : ℕ} {a : A} → refused n p ≡ given a → X
no_answer e = let z : ◌≡◌ {A = ℕ} 0 1 = cc in absurd (omega (arith, z))

-- The book first

module _ (commands text : Text) where
  pub book_refused : (r : Refusal) → verdict commands text ≡ refusal r → book commands text ≡ refusal r
  unfolding book
  book_refused r e = rw e refl

  pub book_given : (rows : List IndexRow) (n : ℕ) → AcceptedAs commands text rows n → book commands text ≡ given (records_of commands text)
  unfolding book records_of
  book_given rows n a = rw (a.accepted) refl

-- A record that is loaded, where the question may be asked

pub not_asked : (rs : List Parsed) (path : Text) (ok : Bool) → ok ≡ false → asked_load ok rs path ≡ refused 7 0
not_asked rs path ok e = rw e refl

module _ (b : CheckedBook) (path : Text) (ok : Bool) (e : ok ≡ true) (f : Option ℕ) (h : f ≡ locate (paths_in b.book.paths) path) where
  located : f ≡ locate (paths_of (records_in b.book)) path
  located = h ∙ ap (λ t. locate t path) b.listed.paths

  pub asked_missing : f ≡ None → asked_load ok (records_in b.book) path ≡ refused 8 65535
  unfolding load_path load_found
  asked_missing n = rw (e, ← located, n) refl

  module _ (c : ℕ) (g : f ≡ Some c) where
    pub asked_inside : c < length b.book.paths.rows.now
    asked_inside = locate_within b.book.paths.text.now b.book.paths.rows.now path c (sym g ∙ h)

    pub asked_found : asked_load ok (records_in b.book) path ≡ load_record (records_in b.book) c
    unfolding load_path load_found
    asked_found = rw (e, ← located, g) refl

-- the load of a record, as it is asked for
pub loads_as : (rs : List Parsed) (a : Answer Project) (c : ℕ) → a ≡ load_record rs c → (r : Result Loaded Refusal) → WholeAs rs c r → LoadsAs rs a r
loads_as rs a c e (Err r) w = e ∙ w
loads_as rs a c e (Ok l) w = record { references = _; answer = e ∙ w.answer; sound = w.row }

-- What is made of a load

pub asked_then : (ok : Bool) (rs : List Parsed) (path : Text) (after : Project → Outcome) → asked ok (load_path rs path >>= after) ≡ (asked_load ok rs path >>= after)
unfolding asked
asked_then true rs path after = refl
asked_then false rs path after = refl

module _ (o : Outcome) (rs : List Parsed) (a : Answer Project) (after : Project → Outcome) (e : o ≡ (a >>= after)) where
  pub then_refused : (r : Refusal) → a ≡ refusal r → o ≡ refusal r
  then_refused r h = e ∙ rw h refl

  pub then_ready : (l : Loaded) (y : Ready rs a l) → o ≡ after (record { site = site_of rs l.row; references = y.references; merges = l.merges })
  then_ready l y = e ∙ rw (y.answer) refl

-- what is loaded may be asked for
pub ready_asked : (ok : Bool) (rs : List Parsed) (path : Text) (l : Loaded) → Ready rs (asked_load ok rs path) l → ok ≡ true
ready_asked ok rs path l y = by_test ok (λ t. t) (λ f. no_answer (sym (not_asked rs path ok f) ∙ y.answer))

-- The paths that are asked for

module _ (commands text path specifier : Text) (room : ℕ) (directory : Option Text) where
  -- the paths of a config that is loaded
  abbrev pub paths_of_load : Project → Outcome
  paths_of_load p = listed room (paths_by directory specifier p.site.config)

  pub paths_asked : tsconfig_paths commands text path directory specifier room ≡ (book commands text >>= λ rs. asked (asked_for path directory specifier) (load_path rs path >>= paths_of_load))
  unfolding tsconfig_candidates tsconfig_tries candidates_of tries_of
  paths_asked = by_directory directory
    where
      by_directory : (d : Option Text) →
          tsconfig_paths commands text path d specifier room ≡ (book commands text >>= λ rs. asked (asked_for path d specifier) (load_path rs path >>= λ p. listed room (paths_by d specifier p.site.config)))
      by_directory None = refl
      by_directory (Some d) = refl

  pub paths_refused : (r : Refusal) → book commands text ≡ refusal r → tsconfig_paths commands text path directory specifier room ≡ refusal r
  paths_refused r e = paths_asked ∙ rw e refl

  pub paths_accepted : (rs : List Parsed) → book commands text ≡ given rs → (ok : Bool) → ok ≡ asked_for path directory specifier →
      tsconfig_paths commands text path directory specifier room ≡ (asked_load ok rs path >>= paths_of_load)
  paths_accepted rs e ok h = paths_asked ∙ rw (e, h) (asked_then _ rs path _)

both_true : (a b : Bool) → a && b ≡ true → (a ≡ true) × (b ≡ true)
both_true true b h = (refl, h)
both_true false b h = absurd (true≢false (sym h))

string_short : (s : Text) → string_rule s ≡ true → length s ≤ 512
unfolding string_rule
string_short s h = leb-true (length s) 512 (both_true (leb (length s) 512) _ h).0

asked_short : (s : Text) → asked_path s ≡ true → length s ≤ 512
unfolding asked_path
asked_short s h = string_short s (both_true (string_rule s) _ h).0

module _ (path specifier : Text) where
  pub specifier_short : (directory : Option Text) → asked_for path directory specifier ≡ true → length specifier ≤ 512
  specifier_short None h = string_short specifier (both_true (asked_path path) _ h).1
  specifier_short (Some d) h = string_short specifier (both_true (asked_path d) _ (both_true (asked_path path) _ h).1).1

  pub directory_short : (directory : Option (Bor Text)) → asked_for path (option_copied directory) specifier ≡ true → IfSome directory (λ d. length d.now ≤ 512)
  directory_short None h = tt
  directory_short (Some d) h = asked_short d.now (both_true (asked_path d.now) _ (both_true (asked_path path) _ h).1).0

-- A build

module _ (commands text path : Text) (room : ℕ) where
  pub build_refused : (r : Refusal) → book commands text ≡ refusal r → tsconfig_build commands text path room ≡ refusal r
  unfolding tsconfig_build
  build_refused r e = rw e refl

  pub build_accepted : (rs : List Parsed) → book commands text ≡ given rs → (ok : Bool) → ok ≡ asked_path path →
      tsconfig_build commands text path room ≡ (asked_load ok rs path >>= λ p. fit room (build_reply rs p.site p.merges))
  unfolding tsconfig_build build
  build_accepted rs e ok h = rw (e, h) (asked_then (asked_path path) rs path _)

-- The owner, which lends no output

module _ (commands text path : Text) where
  pub owner_refused : (r : Refusal) → book commands text ≡ refusal r → tsconfig_owner commands text path ≡ refusal r
  unfolding tsconfig_owner
  owner_refused r e = rw e refl

  module _ (rs : List Parsed) (e : book commands text ≡ given rs) (ok : Bool) (h : ok ≡ asked_path path) where
    pub owner_not : ok ≡ false → tsconfig_owner commands text path ≡ refused 7 0
    unfolding tsconfig_owner owner asked
    owner_not n = rw (e, ← h, n) refl

    module _ (y : ok ≡ true) (r : Result (Option Owner) Refusal) (w : owner_of rs path ≡ answered r (given None)) where
      found : tsconfig_owner commands text path ≡ (answered r (given None) >>= owner_reply)
      unfolding tsconfig_owner owner asked
      found = rw (e, ← h, y, w) refl

      pub owner_refuses : (x : Refusal) → r ≡ Err x → tsconfig_owner commands text path ≡ refusal x
      owner_refuses x g = found ∙ rw g refl

      pub owner_nobody : r ≡ Ok None → (n : Given) → numbers_given n ≡ 0 ∷ 0 ∷ 65535 ∷ 65535 ∷ 0 ∷ [] → numbers_given n ≡ returned (tsconfig_owner commands text path)
      unfolding owner_reply returned
      owner_nobody g n a = a ∙ sym (ap returned (found ∙ ap (λ (q : Result (Option Owner) Refusal). answered q (given None) >>= owner_reply) g))

      pub owner_found : (o : Owner) → r ≡ Ok (Some o) → (n : Given) → numbers_given n ≡ 0 ∷ 0 ∷ o.found ∷ o.solution ∷ 0 ∷ [] → numbers_given n ≡ returned (tsconfig_owner commands text path)
      unfolding owner_reply returned
      owner_found o g n a = a ∙ sym (ap returned (found ∙ ap (λ (q : Result (Option Owner) Refusal). answered q (given None) >>= owner_reply) g))
