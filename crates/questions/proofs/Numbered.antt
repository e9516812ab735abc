-- Every refusal of every question has a number from 1 to 13. Assumes nothing.
use mathlib.Core.List.{List, [], ◌∷◌, reverse, map}
use mathlib.Core.Bool.{Bool, true, false, cond, ◌||◌}
use Rattle.std.specs.Prelude.{Option, Some, None}
use Prim.Native.Nat.{ℕ, zero, suc}
use native.Mathlib.Omega.{arith}
use lib.ListN.{length}
use lib.Dec.{eqb, ltb}
use Rattle.text.specs.Bytes.{Text}
use Rattle.components.specs.Components.{inside_node_modules}
use Rattle.book.specs.declared.Cmd.{Cmd}
use Rattle.book.specs.Answer.{Answer, refused, given, ◌>>=◌, unless}
use Rattle.book.specs.Command.{Decoded, ended, broken, command, decode}
use Rattle.book.specs.Rules.{Before, in_order, good_string, too_many, given_before, text_of, fault_of, fault, tally, last_op, keys_of, path_of}
use Rattle.book.specs.Book.{next, finish, judge, nothing, verdict}
use Rattle.tsconfig.specs.Config.{Field, Config, merge}
use Rattle.tsconfig.specs.Parsed.{Parsed, parsed}
use Rattle.tsconfig_resolver.specs.Line.{Configs, Entry, empty, bare, missing, leads}
use Rattle.tsconfig_resolver.specs.Load.{State, Loaded, unread, recall, parent, walk, counted, add, refusal, fresh, load_by, load, start}
use Rattle.tsconfig_resolver.specs.References.{refer}
use Rattle.tsconfig_resolver.specs.Find.{seen, meant, record_at}
use Rattle.tsconfig_resolver.specs.Project.{Owner, Store, refer_to, references_of, load_record, load_found, load_path, owned, owner_at, owner_from, owner_of}
use Rattle.tsconfig.specs.Claims.{claims_ownership}
use Rattle.replies.specs.Replies.{Outcome, Reply, fit, listed}
use Rattle.questions.specs.Questions.{asked, book, build, candidates_of, tries_of, owner, owner_reply, tsconfig_build, tsconfig_owner, tsconfig_candidates, tsconfig_tries}
use Rattle.questions.specs.Numbered.{Numbered, NumberedIf}

module _ {A B : Type 0} where
  bind : (a : Answer A) (f : A → Answer B) → Numbered a → ((x : A) → Numbered (f x)) → Numbered (a >>= f)
  bind (refused k p) f h g = h
  bind (given x) f h g = g x

module _ {A S : Type 0} where
  unless_numbered : (o : Option ℕ) (p : ℕ) (k : S → Answer A) (s : S) → NumberedIf o → Numbered (k s) → Numbered (unless o p k s)
  unless_numbered None p k s h g = g
  unless_numbered (Some n) p k s h g = h

cond_numbered : {A : Type 0} (b : Bool) (x y : Answer A) → Numbered x → Numbered y → Numbered (cond b x y)
cond_numbered true x y h g = h
cond_numbered false x y h g = g

cond_if : (b : Bool) (x y : Option ℕ) → NumberedIf x → NumberedIf y → NumberedIf (cond b x y)
cond_if true x y h g = h
cond_if false x y h g = g

-- The book

fault_numbered : (text : Text) (count : ℕ → ℕ) (last n : ℕ) (keys paths : List Text) (c : Cmd) → NumberedIf (fault_of text count last n keys paths c)
unfolding fault_of
fault_numbered text count last n keys paths c =
    cond_if (in_order count last c) _ (Some 3)
    (cond_if (good_string text c) _ (Some 4)
    (cond_if (too_many count last c n) (Some 5) _ (omega arith, omega arith)
    (cond_if (given_before keys paths c.op (text_of text c)) (Some 6) None (omega arith, omega arith) tt))
    (omega arith, omega arith))
    (omega arith, omega arith)

judge_numbered : (text : Text) (b : Before) (d : Decoded) → Numbered (judge text b d)
unfolding judge finish fault
judge_numbered text b (ended at) = cond_numbered (eqb (length b.here) 0) (given (reverse (map reverse b.records))) (refused 2 at) tt (omega arith, omega arith)
judge_numbered text b (broken at) = (omega arith, omega arith)
judge_numbered text b (command at c rest) =
    unless_numbered (fault text b c) at (λ n. judge text n rest) (next b c)
    (fault_numbered text (λ k. tally k b.here) (last_op b.here) (length b.records) (keys_of text b.here) (map (path_of text) b.records) c)
    (judge_numbered text (next b c) rest)

book_numbered : (commands text : Text) → Numbered (book commands text)
unfolding book verdict
book_numbered commands text =
    bind (verdict commands text) (λ rs. given (map (parsed text) rs))
    (cond_numbered (ltb 32768 (length commands) || ltb 65535 (length text)) (refused 1 0) (judge text nothing (decode 0 0 commands)) (omega arith, omega arith) (judge_numbered text nothing (decode 0 0 commands)))
    (λ rs. tt)

-- The load

unread_numbered : (es : List Entry) → NumberedIf (unread es)
unread_numbered [] = tt
unread_numbered (empty ∷ es) = (omega arith, omega arith)
unread_numbered (bare ∷ es) = (omega arith, omega arith)
unread_numbered (missing ∷ es) = unread_numbered es
unread_numbered (leads p ∷ es) = unread_numbered es

module _ {Val : Field → Type 0} {B : Type 0} where
  abbrev OneNumbered : (ℕ → State Val B → Answer (Loaded Val B)) → Type 0
  OneNumbered one = (p : ℕ) (s : State Val B) → Numbered (one p s)

  recall_numbered : (o : Option (Config Val B)) (k : State Val B → Answer (Loaded Val B)) (s : State Val B) → Numbered (k s) → Numbered (recall o k s)
  recall_numbered (Some x) k s h = tt
  recall_numbered None k s h = h

  module _ (one : ℕ → State Val B → Answer (Loaded Val B)) (h : OneNumbered one) (c : ℕ) where
    parent_numbered : (e : Entry) (s : State Val B) → Numbered (parent one c e s)
    parent_numbered empty s = (omega arith, omega arith)
    parent_numbered bare s = (omega arith, omega arith)
    parent_numbered missing s = (omega arith, omega arith)
    parent_numbered (leads p) s = recall_numbered (s.table p) (one p) s (h p s)

    walk_numbered : (es : List Entry) (x : Config Val B) (s : State Val B) → Numbered (walk one c es x s)
    walk_numbered [] x s = tt
    walk_numbered (e ∷ es) x s =
        bind (parent one c e s) (λ r. walk one c es (merge x r.config) (counted r.state)) (parent_numbered e s) (λ r. walk_numbered es (merge x r.config) (counted r.state))

module _ {Val : Field → Type 0} {B : Type 0} (b : Configs Val B) where
  by_numbered : (k : ℕ) (chain : ℕ → Bool) (c : ℕ) (s : State Val B) → Numbered (load_by b k chain c s)
  unfolding load_by
  by_numbered zero chain c s = (omega arith, omega arith)
  by_numbered (suc k) chain c s =
      unless_numbered (refusal b chain c) c (fresh b (load_by b k (add c chain)) c) s
      (cond_if (chain c) (Some 9) (unread (b.entries c)) (omega arith, omega arith) (unread_numbered (b.entries c)))
      (bind (walk (load_by b k (add c chain)) c (reverse (b.entries c)) (b.own c) s) _
      (walk_numbered (load_by b k (add c chain)) (by_numbered k (add c chain)) c (reverse (b.entries c)) (b.own c) s) (λ r. tt))

  load_numbered : (chain : ℕ → Bool) (c : ℕ) (s : State Val B) → Numbered (load b chain c s)
  unfolding load
  load_numbered chain c s = by_numbered _ chain c s

  refer_numbered : (c r : ℕ) (s : State Val B) → Numbered (refer b c r s)
  refer_numbered c r s =
      unless_numbered (cond (eqb r c) (Some 10) None) c _ s
      (cond_if (eqb r c) (Some 10) None (omega arith, omega arith) tt)
      (unless_numbered (unread (b.entries r)) r _ s (unread_numbered (b.entries r))
      (walk_numbered (load b (λ i. false)) (load_numbered (λ i. false)) r (reverse (b.entries r)) (b.own r) s))

module _ (rs : List Parsed) where
  to_numbered : (c : ℕ) (o : Option ℕ) (s : Store) → Numbered (refer_to rs c o s)
  unfolding refer_to
  to_numbered c None s = (omega arith, omega arith)
  to_numbered c (Some r) s = bind (refer (seen rs) c r s) _ (refer_numbered (seen rs) c r s) (λ x. tt)

  references_numbered : (c : ℕ) (ts : List Text) (s : Store) → Numbered (references_of rs c ts s)
  unfolding references_of
  references_numbered c [] s = tt
  references_numbered c (t ∷ ts) s =
      bind (refer_to rs c (meant rs c t) s) _ (to_numbered c (meant rs c t) s)
      (λ x. bind (references_of rs c ts x.state) _ (references_numbered c ts x.state) (λ more. tt))

  record_numbered : (c : ℕ) → Numbered (load_record rs c)
  unfolding load_record
  record_numbered c =
      bind (load (seen rs) (λ i. false) c start) _ (load_numbered (seen rs) (λ i. false) c start)
      (λ x. bind (references_of rs c (record_at rs c).references x.state) _ (references_numbered c (record_at rs c).references x.state) (λ refs. tt))

  found_numbered : (o : Option ℕ) → Numbered (load_found rs o)
  unfolding load_found
  found_numbered None = (omega arith, omega arith)
  found_numbered (Some c) = record_numbered c

  path_numbered : (p : Text) → Numbered (load_path rs p)
  unfolding load_path
  path_numbered p = found_numbered _

  at_numbered : (path : Text) (o : Option ℕ) (above : Answer (Option Owner)) → Numbered above → Numbered (owner_at rs path o above)
  unfolding owner_at owned
  at_numbered path None above h = h
  at_numbered path (Some c) above h =
      bind (load_record rs c) (λ p. owned path p above) (record_numbered c)
      (λ p. cond_numbered (claims_ownership path p.site p.references) (given (Some _)) above tt h)

  from_numbered : (path : Text) (ds : List Text) → Numbered (owner_from rs path ds)
  unfolding owner_from
  from_numbered path [] = tt
  from_numbered path (d ∷ ds) = at_numbered path _ (owner_from rs path ds) (from_numbered path ds)

  of_numbered : (path : Text) → Numbered (owner_of rs path)
  unfolding owner_of
  of_numbered path = cond_numbered (inside_node_modules path) (given None) _ tt (from_numbered path _)

-- The questions

asked_numbered : (ok : Bool) (o : Outcome) → Numbered o → Numbered (asked ok o)
unfolding asked
asked_numbered ok o h = cond_numbered ok o (refused 7 0) h (omega arith, omega arith)

fit_numbered : (room : ℕ) (r : Reply) → Numbered (fit room r)
unfolding fit
fit_numbered room r = cond_numbered (ltb room (length r.bytes)) (refused 13 (length r.bytes)) (given r) (omega arith, omega arith) tt

reply_numbered : (o : Option Owner) → Numbered (owner_reply o)
unfolding owner_reply
reply_numbered None = tt
reply_numbered (Some o) = tt

pub build_numbered : (commands text path : Text) (room : ℕ) → Numbered (tsconfig_build commands text path room)
unfolding tsconfig_build build
build_numbered commands text path room =
    bind (book commands text) _ (book_numbered commands text)
    (λ rs. asked_numbered _ _ (bind (load_path rs path) _ (path_numbered rs path) (λ p. fit_numbered room _)))

pub owner_numbered : (commands text path : Text) → Numbered (tsconfig_owner commands text path)
unfolding tsconfig_owner owner
owner_numbered commands text path =
    bind (book commands text) _ (book_numbered commands text)
    (λ rs. asked_numbered _ _ (bind (owner_of rs path) owner_reply (of_numbered rs path) reply_numbered))

pub candidates_numbered : (commands text path specifier : Text) (room : ℕ) → Numbered (tsconfig_candidates commands text path specifier room)
unfolding tsconfig_candidates candidates_of listed
candidates_numbered commands text path specifier room =
    bind (book commands text) _ (book_numbered commands text)
    (λ rs. asked_numbered _ _ (bind (load_path rs path) _ (path_numbered rs path) (λ p. fit_numbered room _)))

pub tries_numbered : (commands text path directory specifier : Text) (room : ℕ) → Numbered (tsconfig_tries commands text path directory specifier room)
unfolding tsconfig_tries tries_of listed
tries_numbered commands text path directory specifier room =
    bind (book commands text) _ (book_numbered commands text)
    (λ rs. asked_numbered _ _ (bind (load_path rs path) _ (path_numbered rs path) (λ p. fit_numbered room _)))
