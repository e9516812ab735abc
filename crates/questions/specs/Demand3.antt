-- Demand 3 over the definitions of the questions: one record about a config that loads without refusal. What is quoted are its sentences.
use Rattle.std.specs.Prelude.{◌≡◌, List, map, ℕ}
use Rattle.text.specs.Bytes.{Text}
use Rattle.tsconfig.specs.Config.{merge}
use Rattle.tsconfig.specs.Parsed.{Parsed}
use Rattle.tsconfig.specs.Claims.{Site, claims, claims_ownership}
use Rattle.tsconfig.specs.Mapping.{candidates, tries}
use Rattle.tsconfig.specs.Listing.{listing}
use Rattle.tsconfig.specs.Bracket.{Tree, leaves, eval}
use Rattle.tsconfig_resolver.specs.Line.{line, flat_line, entries_of}
use Rattle.tsconfig_resolver.specs.Load.{Loaded}
use Rattle.tsconfig_resolver.specs.Demand3.{LineRule, own_way}
use Rattle.tsconfig_resolver.specs.Find.{Supplied, SuppliedValue, seen}
use Rattle.tsconfig_resolver.specs.Project.{Merged, Project, site_at}

-- the flat config of a record's line, built at the record's path
abbrev pub flat_site : List Parsed → ℕ → Site
flat_site rs c = site_at rs c (flat_line (seen rs) c)

-- What the load of the record c has given, p.
pub record Inherits (rs : List Parsed) (c : ℕ) (p : Project) : Type 1 where
  -- the merged config that the load ended in, with the line, its fields and its base
  pub loaded : Loaded SuppliedValue (Supplied Text)
  pub rule : LineRule (seen rs) c loaded
  -- "Whichever way the line's merges are bracketed, its order kept and the load's own way included, they end in that flat config."
  pub bracketed : (w : Tree Merged) → leaves w ≡ map (seen rs).own (line (seen rs) c) → site_at rs c (eval merge w) ≡ flat_site rs c
  pub own_way_lem : leaves (own_way (seen rs) (seen rs).size c) ≡ map (seen rs).own (line (seen rs) c)
  pub flattened : p.site ≡ flat_site rs c
  -- "the flat config yields, where not refused, the build's whole output, .."
  pub output : (references : List Text) → listing references p.site.config ≡ listing references (flat_site rs c).config
  -- "whatever path is asked, the loaded config claims it exactly when the flat one does"; and with the references, as owner asks
  pub claimed : (path : Text) → claims path p.site ≡ claims path (flat_site rs c)
  pub claimed_with : (path : Text) → claims_ownership path p.site p.references ≡ claims_ownership path (flat_site rs c) p.references
  -- "whatever specifier is asked, the candidates are the flat one's, in order"
  pub mapped_to : (s : Text) → candidates p.site.config s ≡ candidates (flat_site rs c).config s
  pub tried : (dir s : Text) → tries p.site.config dir s ≡ tries (flat_site rs c).config dir s
  -- "as many as the extends entries of the distinct configs in the line, each once, however often the line repeats one"
  pub merged : p.merges ≡ entries_of (seen rs) (line (seen rs) c)
