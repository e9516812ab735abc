-- Demand 3: what holds where a config loads without refusal.
use Rattle.std.specs.Prelude.{◌≡◌, List, [], ◌∷◌, map, true, false, ℕ, zero, suc, ◌≤◌}
use Rattle.std.specs.Prelude.{unwrap_or}
use Rattle.tsconfig.specs.Config.{Field, base_url, paths, Config, first, last, base_if, merge}
use Rattle.tsconfig.specs.Bracket.{Tree, leaf, join, leaves, eval}
use Rattle.tsconfig_resolver.specs.Line.{Configs, lines, elem, parents, rest, above, line, flat_line, entries_of}
use Rattle.tsconfig_resolver.specs.Load.{Loaded}

module _ {Val : Field → Type 0} {B : Type 0} (b : Configs Val B) where
  -- the load's own bracketing: what the record has come to, merged with what each parent came to, last entry first
  abbrev pub joins : Tree (Config Val B) → (ℕ → Tree (Config Val B)) → List ℕ → Tree (Config Val B)
  joins t up [] = t
  joins t up (p ∷ ps) = joins (join t (up p)) up ps

  -- through k extends
  unfoldable pub own_way : ℕ → ℕ → Tree (Config Val B)
  own_way zero c = leaf (b.own c)
  own_way (suc k) c = joins (leaf (b.own c)) (own_way k) (parents b c)

  -- What the load of the asked config c has given, r.
  pub record LineRule (c : ℕ) (r : Loaded Val B) : Type 1 where
    -- its line is itself, then the line of the last config it extends, and so on back to the first; so is each line in it
    pub unrolled : (i : ℕ) → elem i (line b c) ≡ true → line b i ≡ i ∷ lines (above b) (parents b i)
    -- the line is well defined: no config of it stands above itself, and it is the same however far it is followed
    pub acyclic : (i : ℕ) → elem i (line b c) ≡ true → elem i (above b i) ≡ false
    pub settled : (i k : ℕ) → elem i (line b c) ≡ true → b.size ≤ k → rest b k i ≡ above b i
    -- each inherited field is that of the first in the line to name it
    pub field : (f : Field) → r.config.named f ≡ first (λ i. (b.own i).named f) (line b c)
    -- the base is that of the first naming baseUrl, else of the first naming paths, else of the last in the line
    pub base :
        r.config.base
        ≡ unwrap_or (first (λ i. base_if base_url (b.own i)) (line b c))
        (unwrap_or (first (λ i. base_if paths (b.own i)) (line b c)) (b.own (last c (above b c))).base)
    -- whichever way the line's merges are bracketed, its order kept, they end in the loaded config
    pub bracketed : (w : Tree (Config Val B)) → leaves w ≡ map b.own (line b c) → eval merge w ≡ r.config
    -- the load's own way is one of them
    pub own_way_lem : leaves (own_way b.size c) ≡ map b.own (line b c)
    -- whatever is made of the loaded config is made of the flat one
    pub output : {A : Type 0} (out : Config Val B → A) → out r.config ≡ out (flat_line b c)
    -- the merges are as many as the extends entries of the distinct configs in the line
    pub merged : r.state.merges ≡ entries_of b (line b c)
