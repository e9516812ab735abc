-- The owner: what claims the path among the references, and the walk over the folders. Assumes nothing.
use mathlib.Core.Path.{◌≡◌, refl, sym, ap, ap₂, subst, ◌∙◌}
use mathlib.Core.List.{List, [], ◌∷◌}
use mathlib.Core.Bool.{Bool, true, false, ◌||◌, cond}
use Rattle.std.specs.Prelude.{Option, Some, None, unwrap_or, Result, Ok, Err}
use Prim.Native.Nat.{ℕ, zero, suc, ◌+◌, ◌-◌, ◌≤◌, ◌<◌}
use native.Mathlib.Numerals.{add-one}
use lib.ListN.{length, get_or, drop, drop_of_length-le}
use lib.Seq.{drop-cons}
use Rattle.text.specs.Bytes.{Text}
use Rattle.names.specs.Names.{tsconfig_json}
use Rattle.text.specs.Text.{some_of}
use Rattle.text.proofs.Picks.{by_test}
use Rattle.ends.specs.Ends.{parent_of}
use Rattle.join.specs.Join.{push_of}
use Rattle.components.specs.Components.{components, inside_node_modules}
use Rattle.path.specs.Path.{is_some}
use Rattle.book.specs.Answer.{given}
use Rattle.book.specs.Find.{find}
use Rattle.book.specs.Refusals.{refusal}
use Rattle.book.specs.declared.Refusal.{Refusal}
use Rattle.records.specs.Tables.{paths_in}
use Rattle.records.proofs.Paths.{find_within}
use Rattle.tsconfig.specs.Parsed.{Parsed}
use Rattle.tsconfig.specs.Claims.{Site, claims, claims_ownership, solution, solution_style}
use Rattle.tsconfig.proofs.Style.{solution_style_idle}
use Rattle.tsconfig_resolver.specs.Find.{paths_of}
use Rattle.tsconfig_resolver.specs.Project.{load_record, owned, owner_at, owner_from, owner_of, folders}
use Rattle.rows.specs.Rows.{site_of, number_of}
use Rattle.rows.specs.Checked.{records_in}
use Rattle.rows.specs.declared.CheckedBook.{CheckedBook}
use Rattle.references.specs.References.{sites_of}
use Rattle.owner.specs.declared.Owner.{Owner}
use Rattle.owner.specs.Owned.{claimer, answered, OwnedAs, FolderAs}

-- What claims the path

some_claimer : (path : Text) (ss : List Site) → some_of (claims path) ss ≡ is_some (claimer path ss)
unfolding some_of claimer is_some
some_claimer path [] = refl
some_claimer path (s ∷ ss) = by_test (claims path s) (λ y. rw y refl) (λ f. rw f (some_claimer path ss))

solution_claimer : (path : Text) (s : Site) (ss : List Site) → solution path s ss ≡ unwrap_or (claimer path ss) s.number
unfolding solution claimer
solution_claimer path s [] = refl
solution_claimer path s (r ∷ ss) = by_test (claims path r) (λ y. rw y refl) (λ f. rw f (solution_claimer path s ss))

module _ (path : Text) (s : Site) (ss : List Site) where
  -- the test for solution style may be left out
  owns : claims_ownership path s ss ≡ is_some (claimer path ss) || claims path s
  unfolding claims_ownership
  owns =
      ap₂ ◌||◌ (some_claimer path ss)
      (by_test (solution_style s ss)
      (λ y. rw (y, solution_style_idle path s ss y) refl)
      (λ f. rw f refl))

-- One config on the walk

pub own_number : (rs : List Parsed) (row : List ℕ) → (site_of rs row).number ≡ number_of row
unfolding site_of
own_number rs row = refl

module _ (path : Text) (s : Site) (ss : List Site) (n : ℕ) (same : n ≡ s.number) (o : Option ℕ) (e : o ≡ claimer path ss) where
  pub owned_reference : (q : ℕ) → o ≡ Some q → OwnedAs path s ss (Some (record { found = n; solution = q }))
  unfolding owned is_some
  owned_reference q h =
      let g : claimer path ss ≡ Some q = sym e ∙ h in
      record { answer = λ m above. rw (owns path s ss, solution_claimer path s ss, g, same) refl }

  module _ (h : o ≡ None) (b : Bool) (i : b ≡ claims path s) where
    pub owned_itself : b ≡ true → OwnedAs path s ss (Some (record { found = n; solution = n }))
    unfolding owned is_some
    owned_itself y =
        let g : claimer path ss ≡ None = sym e ∙ h in
        record { answer = λ m above. rw (owns path s ss, solution_claimer path s ss, g, ← i, y, same) refl }

    pub owned_not : b ≡ false → OwnedAs path s ss None
    unfolding owned is_some
    owned_not f =
        let g : claimer path ss ≡ None = sym e ∙ h in
        record { answer = λ m above. rw (owns path s ss, solution_claimer path s ss, g, ← i, f) refl }

-- One record, as the config of a folder

module _ (rs : List Parsed) (path : Text) (c : ℕ) where
  pub record_refused : (r : Refusal) → load_record rs c ≡ refusal r → FolderAs rs path (Some c) (Err r)
  unfolding owner_at
  record_refused r l = record { answer = λ above. rw l refl }

  pub record_loaded : (s : Site) (ss : List Site) (m : ℕ) (r : Option Owner) → load_record rs c ≡ given (record { site = s; references = ss; merges = m }) → OwnedAs path s ss r → FolderAs rs path (Some c) (Ok r)
  unfolding owner_at
  record_loaded s ss m r l w = record { answer = λ above. (rw l refl) ∙ w.answer m above }

-- One folder: its config, as the code finds it

module _ (book : CheckedBook) (path d : Text) (f : Option ℕ) (e : f ≡ find (push_of d tsconfig_json) (paths_in book.book.paths)) where
  found : f ≡ find (push_of d tsconfig_json) (paths_of (records_in book.book))
  found = e ∙ ap (find (push_of d tsconfig_json)) book.listed.paths

  pub folder_none : f ≡ None → FolderAs (records_in book.book) path (find (push_of d tsconfig_json) (paths_of (records_in book.book))) (Ok None)
  unfolding owner_at
  folder_none h = record { answer = λ above. rw (← found, h) refl }

  module _ (c : ℕ) (h : f ≡ Some c) where
    -- the number is that of a record
    pub folder_inside : c < length book.book.paths.rows.now
    folder_inside = find_within book.book.paths.text.now book.book.paths.rows.now (push_of d tsconfig_json) c (sym h ∙ e)

    -- the folder comes to what its record comes to
    pub folder_found : (r : Result (Option Owner) Refusal) → FolderAs (records_in book.book) path (Some c) r → FolderAs (records_in book.book) path (find (push_of d tsconfig_json) (paths_of (records_in book.book))) r
    folder_found r w = subst (λ (o : Option ℕ). FolderAs (records_in book.book) path o r) (sym h ∙ found) w

    pub folder_refused : (r : Refusal) → load_record (records_in book.book) c ≡ refusal r → FolderAs (records_in book.book) path (find (push_of d tsconfig_json) (paths_of (records_in book.book))) (Err r)
    folder_refused r l = folder_found (Err r) (record_refused (records_in book.book) path c r l)

    pub folder_loaded : (s : Site) (ss : List Site) (m : ℕ) (r : Option Owner) → load_record (records_in book.book) c ≡ given (record { site = s; references = ss; merges = m }) → OwnedAs path s ss r → FolderAs (records_in book.book) path (find (push_of d tsconfig_json) (paths_of (records_in book.book))) (Ok r)
    folder_loaded s ss m r l w = folder_found (Ok r) (record_loaded (records_in book.book) path c s ss m r l w)

-- The walk

-- d and the folders above it, k of them
pub left : ℕ → Text → List Text
left zero d = []
left (suc k) d = d ∷ left k (parent_of d)

folders_left : (k : ℕ) (d : Text) → folders k d ≡ left (suc k) d
unfolding folders left
folders_left zero d = refl
folders_left (suc k) d = ap (λ (l : List Text). d ∷ l) (folders_left k (parent_of d))

module _ (rs : List Parsed) (path : Text) where
  pub walk_never : (b : Bool) → b ≡ inside_node_modules path → b ≡ true → owner_of rs path ≡ given None
  unfolding owner_of
  walk_never b e y = rw (← e, y) refl

  pub walk_start : (b : Bool) → b ≡ inside_node_modules path → b ≡ false → (k : ℕ) → k ≡ suc (length (components path) - 1) → owner_of rs path ≡ owner_from rs path (left k path)
  unfolding owner_of
  walk_start b e f k h = (rw (← e, f) refl) ∙ ap (owner_from rs path) (folders_left (length (components path) - 1) path ∙ ap (λ (j : ℕ). left j path) (sym h))

  pub walk_end : (k : ℕ) (d : Text) → owner_of rs path ≡ owner_from rs path (left k d) → k ≡ 0 → owner_of rs path ≡ given None
  unfolding owner_from left
  walk_end k d w z = w ∙ rw z refl

  module _ (k j : ℕ) (d : Text) (w : owner_of rs path ≡ owner_from rs path (left k d)) (z : k ≡ suc j) (r : Result (Option Owner) Refusal) (f : FolderAs rs path (find (push_of d tsconfig_json) (paths_of rs)) r) where
    next : owner_of rs path ≡ answered r (owner_from rs path (left j (parent_of d)))
    unfolding owner_from left
    next = w ∙ ap (λ (i : ℕ). owner_from rs path (left i d)) z ∙ f.answer (owner_from rs path (left j (parent_of d)))

    pub walk_refused : (q : Refusal) → r ≡ Err q → owner_of rs path ≡ refusal q
    walk_refused q e = next ∙ ap (λ x. answered x (owner_from rs path (left j (parent_of d)))) e

    pub walk_found : (o : Owner) → r ≡ Ok (Some o) → owner_of rs path ≡ given (Some (record { found = o.found; solved = o.solution }))
    walk_found o e = next ∙ ap (λ x. answered x (owner_from rs path (left j (parent_of d)))) e

    pub walk_on : r ≡ Ok None → (u : Text) → u ≡ parent_of d → owner_of rs path ≡ owner_from rs path (left j u)
    walk_on e u g = next ∙ ap (λ x. answered x (owner_from rs path (left j (parent_of d)))) e ∙ ap (λ (v : Text). owner_from rs path (left j v)) (sym g)

-- The references in turn

module _ (path : Text) (rs : List Parsed) (refs : List (List ℕ)) (i : ℕ) (w : claimer path (sites_of rs refs) ≡ claimer path (sites_of rs (drop i refs))) where
  pub search_end : length refs ≤ i → None ≡ claimer path (sites_of rs refs)
  unfolding claimer
  search_end h = sym (w ∙ ap (λ (l : List (List ℕ)). claimer path (sites_of rs l)) (drop_of_length-le refs h))

  module _ (h : i < length refs) (b : Bool) (d row : List ℕ) (e : row ≡ get_or refs i d) (told : b ≡ claims path (site_of rs row)) where
    here : claimer path (sites_of rs refs) ≡ cond b (Some (number_of row)) (claimer path (sites_of rs (drop (suc i) refs)))
    unfolding claimer site_of
    here =
        w
        ∙ ap (λ (l : List (List ℕ)). claimer path (sites_of rs l)) (drop-cons refs i d h)
        ∙ ap (λ (x : List ℕ). claimer path (sites_of rs (x ∷ drop (suc i) refs))) (sym e)
        ∙ ap (λ (t : Bool). cond t (Some (number_of row)) (claimer path (sites_of rs (drop (suc i) refs)))) (sym told)

    pub search_found : b ≡ true → Some (number_of row) ≡ claimer path (sites_of rs refs)
    search_found y = sym (here ∙ rw y refl)

    pub search_on : b ≡ false → claimer path (sites_of rs refs) ≡ claimer path (sites_of rs (drop (i + 1) refs))
    search_on f = here ∙ (rw f refl) ∙ ap (λ (j : ℕ). claimer path (sites_of rs (drop j refs))) (sym (add-one i))
