-- Demand 3, whole.
-- Assumes nothing.
use mathlib.Core.Path.{◌≡◌, refl, sym, ap, ap₂, ◌∙◌}
use Rattle.std.proofs.lemmas.List.{map-append}
use mathlib.Core.List.{List, [], ◌∷◌, ◌++◌, map, append_assoc, append-nil, Memᴰ}
use Rattle.std.specs.Prelude.{unwrap_or}
use Prim.Native.Nat.{ℕ, zero, suc, ◌<◌}
use Rattle.tsconfig.specs.Config.{Field, base_url, paths, Config, first, last, base_if, flat}
use Rattle.tsconfig.specs.Bracket.{Tree, leaf, join, leaves}
use Rattle.tsconfig_resolver.specs.Line.{Configs, lines, parents, rest, above, line, flat_line}
use Rattle.book.specs.Answer.{given}
use Rattle.tsconfig_resolver.specs.Load.{Loaded, load_asked}
use Rattle.text.specs.Bytes.{Text}
use Rattle.tsconfig.specs.Parsed.{Parsed}
use Rattle.tsconfig_resolver.specs.Find.{Supplied, SuppliedValue, seen}
use lib.ListN.{length}
use Rattle.tsconfig_resolver.proofs.Inside.{inside}
use Rattle.tsconfig_resolver.specs.Demand3.{joins, own_way, LineRule}
use Rattle.tsconfig.proofs.Flat.{first_map, last_map, bracket}
use Rattle.tsconfig_resolver.proofs.Load.{whole}

module _ {Val : Field → Type 0} {B : Type 0} (b : Configs Val B) where
  joins_leaves :
      (up : ℕ → List ℕ) (w : ℕ → Tree (Config Val B)) → ((p : ℕ) → leaves (w p) ≡ map b.own (p ∷ up p)) →
      (ps : List ℕ) (t : Tree (Config Val B)) → leaves (joins b t w ps) ≡ leaves t ++ map b.own (lines up ps)
  joins_leaves up w h [] t = sym (append-nil (leaves t))
  joins_leaves up w h (p ∷ ps) t =
      joins_leaves up w h ps (join t (w p)) ∙ append_assoc (leaves t) (leaves (w p)) (map b.own (lines up ps))
      ∙ ap (leaves t ++◌) (ap (◌++ map b.own (lines up ps)) (h p) ∙ sym (map-append b.own (p ∷ up p) (lines up ps)))

  own_leaves : (k c : ℕ) → leaves (own_way b k c) ≡ map b.own (c ∷ rest b k c)
  unfolding own_way rest
  own_leaves zero c = refl
  own_leaves (suc k) c = joins_leaves (rest b k) (own_way b k) (own_leaves k) (parents b c) (leaf (b.own c))

  flat_field : (c : ℕ) (f : Field) → (flat_line b c).named f ≡ first (λ i. (b.own i).named f) (line b c)
  unfolding flat
  flat_field c f = first_map b.own (λ d. d.named f) (line b c)

  flat_base :
      (c : ℕ) → (flat_line b c).base
      ≡ unwrap_or (first (λ i. base_if base_url (b.own i)) (line b c))
      (unwrap_or (first (λ i. base_if paths (b.own i)) (line b c)) (b.own (last c (above b c))).base)
  unfolding flat
  flat_base c =
      ap₂ unwrap_or (first_map b.own (base_if base_url) (line b c))
      (ap₂ unwrap_or (first_map b.own (base_if paths) (line b c)) (ap (λ d. d.base) (last_map b.own c (above b c))))

  pub demand_3 :
      ((c p : ℕ) → Memᴰ p (parents b c) → p < b.size) → (c : ℕ) (r : Loaded Val B) → c < b.size → load_asked b c ≡ given r →
      LineRule b c r
  demand_3 inside c r lt q =
      let w = whole b inside c r lt q in
      let e : r.config ≡ flat_line b c = w.flattened in
      record {
        unrolled = w.unrolled;
        acyclic = w.acyclic;
        settled = w.settled;
        field = λ f. ap (λ d. d.named f) e ∙ flat_field c f;
        base = ap (λ d. d.base) e ∙ flat_base c;
        bracketed = λ v l. bracket (b.own c) (map b.own (above b c)) v l ∙ sym e;
        own_way_lem = own_leaves b.size c;
        output = λ out. ap out e;
        merged = w.counted;
      }

-- The same of a list of parsed records, each value beside its supplier, with nothing left to assume: entries lead to records of the list.
pub line_rule :
    (rs : List Parsed) (c : ℕ) (r : Loaded SuppliedValue (Supplied Text)) → c < length rs → load_asked (seen rs) c ≡ given r →
    LineRule (seen rs) c r
line_rule rs = demand_3 (seen rs) (inside rs)
