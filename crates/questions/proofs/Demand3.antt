-- Demand 3: nothing is assumed but that the load gave an answer. Assumes nothing.
use mathlib.Core.Path.{◌≡◌, refl, sym, ap, ◌∙◌, subst}
use mathlib.Core.List.{List}
use Rattle.std.specs.Prelude.{Option, Some, None}
use Prim.Native.Nat.{ℕ, ◌<◌}
use native.Mathlib.Omega.{arith}
use lib.ListN.{length}
use Rattle.text.specs.Bytes.{Text}
use Rattle.book.specs.Find.{locate}
use Rattle.book.specs.Answer.{Answer, refused, given, ◌>>=◌}
use Rattle.tsconfig.specs.Parsed.{Parsed}
use Rattle.tsconfig.specs.Claims.{claims, claims_ownership}
use Rattle.tsconfig.specs.Mapping.{candidates, tries}
use Rattle.tsconfig.specs.Listing.{listing}
use Rattle.tsconfig_resolver.specs.Line.{flat_line}
use Rattle.tsconfig_resolver.specs.Load.{Loaded, load_asked}
use Rattle.tsconfig_resolver.specs.Find.{Supplied, SuppliedValue, record_at, paths_of, reached, seen}
use Rattle.tsconfig_resolver.specs.Project.{Project, site_at, references_of, load_record, load_found, load_path}
use Rattle.tsconfig_resolver.proofs.Demand3.{line_rule}
use Rattle.tsconfig_resolver.proofs.Inside.{Fits, locate_below}
use Rattle.questions.specs.Questions.{book}
use Rattle.questions.specs.Demand3.{flat_site, Inherits}

pub refused_given : {A : Type 0} {n p : ℕ} {a : A} → refused n p ≡ given a → ⊥
refused_given e = let z : ◌≡◌ {A = ℕ} 0 1 = cc in omega arith

pub given_same : {A : Type 0} {a c : A} → given a ≡ given c → a ≡ c
given_same e = cc

pub then_given : {A C : Type 0} (a : Answer A) (k : A → Answer C) {c : C} → (a >>= k) ≡ given c → (x : A) × (a ≡ given x) × (k x ≡ given c)
then_given (refused n p) k e = absurd (refused_given e)
then_given (given x) k e = (x, refl, e)

-- a project that is loaded is made of a merged config, its references and its merges
made : (rs : List Parsed) (c : ℕ) (p : Project) → load_record rs c ≡ given p →
    (x : Loaded SuppliedValue (Supplied Text)) × (load_asked (seen rs) c ≡ given x) × (site_at rs c x.config ≡ p.site) × (x.state.merges ≡ p.merges)
unfolding load_record
made rs c p e =
    let (x, e₁, e₂) = then_given (load_asked (seen rs) c) _ e in
    let (refs, e₃, e₄) = then_given (references_of rs c (record_at rs c).references x.state) _ e₂ in
    (x, e₁, ap (λ q. q.site) (given_same e₄), ap (λ q. q.merges) (given_same e₄))

pub inherits : (rs : List Parsed) (c : ℕ) (p : Project) → c < length rs → load_record rs c ≡ given p → Inherits rs c p
inherits rs c p lt e =
    let (x, e₁, s, m) = made rs c p e in
    let r = line_rule rs c x lt e₁ in
    let f : x.config ≡ flat_line (seen rs) c = r.output (λ y. y) in
    let q : p.site ≡ flat_site rs c = sym s ∙ ap (site_at rs c) f in
    record {
      loaded = x;
      rule = r;
      bracketed = λ w l. ap (site_at rs c) (r.bracketed w l ∙ f);
      own_way_lem = r.own_way_lem;
      flattened = q;
      output = λ references. ap (λ t. listing references t.config) q;
      claimed = λ path. ap (claims path) q;
      claimed_with = λ path. ap (λ t. claims_ownership path t p.references) q;
      mapped_to = λ s. ap (λ t. candidates t.config s) q;
      tried = λ dir s. ap (λ t. tries t.config dir s) q;
      merged = sym m ∙ r.merged;
    }

-- the same of an asked path
pub inherits_asked : (rs : List Parsed) (path : Text) (p : Project) → load_path rs path ≡ given p → (c : ℕ) × (locate (paths_of rs) path ≡ Some c) × Inherits rs c p
unfolding load_path load_found
inherits_asked rs path p e = go (locate (paths_of rs) path) refl e
  where
    go : (o : Option ℕ) → locate (paths_of rs) path ≡ o → load_found rs o ≡ given p → (c : ℕ) × (locate (paths_of rs) path ≡ Some c) × Inherits rs c p
    go None h e = absurd (refused_given e)
    go (Some c) h e = (c, h, inherits rs c p (subst (λ o. Fits (length rs) (reached o)) h (locate_below rs path)) e)

-- Demand 3, from the lent bytes on: for every book that is accepted and every asked path, if the load gives an answer.
pub demand_3 :
    (commands text path : Text) (rs : List Parsed) (p : Project) → book commands text ≡ given rs → load_path rs path ≡ given p →
    (c : ℕ) × (locate (paths_of rs) path ≡ Some c) × Inherits rs c p
demand_3 commands text path rs p accepted loaded = inherits_asked rs path p loaded
