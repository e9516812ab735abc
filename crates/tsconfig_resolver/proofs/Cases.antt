-- Worked examples of the load: a config found by a path, its line, the refusals 8 to 12 and their order, merges counted, references, and the owner.
use Prim.Native.Nat.{ℕ}
use Prim.Native.String.{String}
use mathlib.Core.List.{List, [], ◌∷◌, ◌++◌, map}
use mathlib.Core.Path.{◌≡◌, refl}
use Rattle.std.specs.Prelude.{Option, Some, None}
use Rattle.text.specs.Bytes.{Text, bytes}
use Rattle.book.specs.declared.Cmd.{Cmd}
use Rattle.book.specs.Answer.{Answer, refused, given}
use Rattle.book.specs.Book.{verdict}
use Rattle.verdicts.proofs.Written.{Line, turns, commands_of, text_of_lem, at, extends, references, files, include}
use Rattle.tsconfig.specs.Parsed.{Parsed, parsed}
use Rattle.tsconfig.specs.Listing.{listing}
use Rattle.tsconfig_resolver.specs.Line.{line}
use Rattle.book.specs.Find.{locate}
use Rattle.tsconfig_resolver.specs.Find.{paths_of, seen}
use Rattle.tsconfig_resolver.specs.Project.{Project, Owner, load_path, owner_of}
-- what the answers are computed with
use Rattle.book.specs.Book.{next, finish, judge}
use Rattle.book.specs.Command.{width_of, operands, decode_at, decode}
use Rattle.book.specs.Find.{find, is_dir, config_path}
use Rattle.book.specs.Record.{only, first_of, strings, single, listed, targets_of, keys_of, mapping, option_of, record_path_of, flag_of}
use Rattle.book.specs.Rules.{text_of, slot, tally, in_range, opened, fresh, follows, in_order, too_many, own_rule, good_string, path_of, keys_of as keysOf-in-Rules, clash, given_before, fault_of, fault}
use Rattle.components.specs.Components.{on_first, split, piece_of, starts, leads_dot, names, heads, components, lead_of, inside_node_modules}
use Rattle.ends.specs.Ends.{joined, ending, trim_end, all_but_last, without_last, parent_of, last_of, last_piece, if_name, file_name, after_dot, extension_of, extension}
use Rattle.glob.specs.Glob.{after_stars, after_star, token_at, tokens, eat, after, after_dirs, match_tokens, glob_of}
use Rattle.join.specs.Join.{joint, push_of, step_by, step_of, walk_of, normalize_with}
use Rattle.path.specs.Path.{same_list, left_of, is_some, same_path, under, normal}
use Rattle.strings.specs.Strings.{string_rule}
use Rattle.path_rules.specs.Paths.{record_path, lead_rule}
use Rattle.patterns.specs.Patterns.{after_config_dir, two_stars, pattern_text, pattern_rule}
use Rattle.compare.specs.Compare.{covers}
use Rattle.text.specs.Text.{prefix_of, same_text, some_of, each_of, find_last_from}
use Rattle.tsconfig.specs.Build.{without_slashes, in_config_dir, substituted, adjusted, built_value, built}
use Rattle.tsconfig.specs.Claims.{allowed, outside, ends, implied, matched, included, excluded, named_file, claims, is_empty_list, no_references, solution_style, claims_ownership, solution}
use Rattle.tsconfig.specs.Config.{merge, mapped}
use Rattle.tsconfig.specs.Listing.{row, rows, items, key_rows, mapping as mapping-in-Listing, decimal, if_named, flag_row, text_row, flags, texts}
use Rattle.tsconfig.specs.Parsed.{placed, placed_value, own_base, parse, said}
use Rattle.tsconfig_resolver.specs.Find.{meant, entry}
use Rattle.tsconfig_resolver.specs.Line.{rest}
use Rattle.tsconfig_resolver.specs.Load.{load_by, load}
use Rattle.tsconfig_resolver.specs.Project.{refer_to, references_of, load_record, load_found, folders, owned, owner_at, owner_from}

pub data Case : Type 0 where
  -- the record that a path means
  finds : List Line → String → Case
  -- the line of a record
  line_of : List Line → ℕ → Case
  -- the config at a path, loaded
  loads : List Line → String → Case
  -- the owner of a file
  owns : List Line → String → Case

pub data Told : Type 0 where
  nothing : Told
  numbers : List ℕ → Told
  -- "A refusal is its number and a place"
  refuses : ℕ → ℕ → Told
  -- the merges counted, the config built, and the numbers of its references
  loaded : ℕ → Text → List ℕ → Told

abbrev pub records_of_lem : Text → Answer (List (List Cmd)) → List Parsed
records_of_lem t (refused n p) = []
records_of_lem t (given rs) = map (parsed t) rs

abbrev pub records : List Line → List Parsed
records ls = records_of_lem (text_of_lem ls) (verdict (commands_of ls) (text_of_lem ls))

abbrev pub of_found : Option ℕ → Told
of_found None = nothing
of_found (Some c) = numbers (c ∷ [])

abbrev pub of_load : Answer Project → Told
of_load (refused n p) = refuses n p
of_load (given p) = loaded p.merges (listing [] p.site.config) (map (λ r. r.number) p.references)

abbrev pub of_owner : Answer (Option Owner) → Told
of_owner (refused n p) = refuses n p
of_owner (given None) = nothing
of_owner (given (Some o)) = numbers (o.found ∷ o.solved ∷ [])

abbrev pub answer : Case → Told
answer (finds ls p) = of_found (locate (paths_of (records ls)) (bytes p))
answer (line_of ls c) = numbers (line (seen (records ls)) c)
answer (loads ls p) = of_load (load_path (records ls) (bytes p))
answer (owns ls p) = of_owner (owner_of (records ls) (bytes p))

pub record Row : Type 0 where
  pub ask : Case
  pub told : Told

infix 5 ◌gets◌
abbrev pub ◌gets◌ : Case → Told → Row
c gets t = record { ask = c; told = t }

-- a load without references: merges and the built config
abbrev pub gives : ℕ → String → Told
gives n s = loaded n (bytes s) []

-- a flag told apart, as a record's mark
abbrev pub flag : ℕ → ℕ → List Line
flag id value = turns id value ∷ []

-- A extends B, C
abbrev pub abc : List Line
abc = at "/a/A.json" (extends ("../b/B" ∷ "../c/C" ∷ [])) ++ (at "/b/B.json" (flag 1 0 ++ flag 2 0) ++ at "/c/C.json" (flag 2 1 ++ flag 3 1))

-- A extends B, C, B by another name; B and C extend D by two names
abbrev pub diamond : List Line
diamond =
    at "/a/A.json" (extends ("./B" ∷ "./C" ∷ "./B.json" ∷ []))
    ++ (at "/a/B.json" (extends ("./D" ∷ [])) ++ (at "/a/C.json" (extends ("./D.json" ∷ [])) ++ at "/a/D.json" []))

-- a config that owns no file itself, with a reference that extends B, C
abbrev pub divided : List Line
divided =
    at "/a/tsconfig.json" (files [] ++ references ("./r" ∷ []))
    ++ (at "/a/r.json" (extends ("./B" ∷ "./C" ∷ [])) ++ (at "/a/B.json" (include ("b" ∷ [])) ++ at "/a/C.json" (include ("c" ∷ []))))

abbrev pub table : List Row
table =
    -- "An asked path that is a record is that record; a directory means its `tsconfig.json`; else `.json` is appended."
    (finds (at "/p/d" [] ++ at "/p/d.json" []) "/p/d" gets numbers (0 ∷ []))
    ∷ (finds (at "/p/x" [] ++ at "/p/d.json" []) "/p/d" gets numbers (1 ∷ []))
    ∷ (finds (at "/p/d.json" [] ++ at "/p/d/tsconfig.json" []) "/p/d" gets numbers (1 ∷ []))
    ∷ (finds (at "/p/d.json" [] ++ at "/p/d/e.json" []) "/p/d" gets nothing)
    ∷ (finds (at "/tsconfig.json" []) "/" gets numbers (0 ∷ []))
    ∷ (finds [] "/" gets nothing)
    -- "A extends B, C: line A, C, B."
    ∷ (line_of abc 0 gets numbers (0 ∷ 2 ∷ 1 ∷ []))
    ∷ (line_of diamond 0 gets numbers (0 ∷ 1 ∷ 3 ∷ 2 ∷ 3 ∷ 1 ∷ 3 ∷ []))
    -- loaded last to first: C's flag before B's, B's folder the base
    ∷ (loads abc "/a/A" gets gives 2 "base=/b\nflag 1=0\nflag 2=1\nflag 3=1\n")
    -- 8: the asked path, and the record that names it
    ∷ (loads abc "/a/B" gets refuses 8 65535)
    ∷ (loads (at "/a/A" [] ++ at "/a/B" (extends ("./n" ∷ []))) "/a/B" gets refuses 8 1)
    -- 9: "A, B, A: 9 at A"
    ∷ (loads (at "/a/A" (extends ("./B" ∷ [])) ++ at "/a/B" (extends ("./A" ∷ []))) "/a/A" gets refuses 9 0)
    ∷ (loads (at "/a/A" (extends ("./B" ∷ [])) ++ at "/a/B" (extends ("./C" ∷ [])) ++ at "/a/C" (extends ("./B" ∷ []))) "/a/A" gets refuses 9 1)
    -- 10: "a config references itself", by any name
    ∷ (loads (at "/a/tsconfig.json" (references ("." ∷ []))) "/a" gets refuses 10 0)
    -- 11 and 12
    ∷ (loads (at "/a/A" (extends ("" ∷ "b" ∷ []))) "/a/A" gets refuses 11 0)
    ∷ (loads (at "/a/A" (extends ("b" ∷ "" ∷ []))) "/a/A" gets refuses 12 0)
    -- all entries are read before any is loaded: 12 and not 8; parents are loaded last to first: 8 at B; references after the parents: 8 and not 10
    ∷ (loads (at "/a/A" (extends ("b" ∷ "./n" ∷ []))) "/a/A" gets refuses 12 0)
    ∷ (loads (at "/a/A" (extends ("./n" ∷ "./B" ∷ [])) ++ at "/a/B" (extends ("./n" ∷ []))) "/a/A" gets refuses 8 1)
    ∷ (loads (at "/a/A" (extends ("./n" ∷ []) ++ references ("./A" ∷ []))) "/a/A" gets refuses 8 0)
    -- merges: each entry of each config once, a config met twice or by two names
    ∷ (loads diamond "/a/A" gets gives 5 "base=/a\n")
    ∷ (loads (at "/a/A" (extends ("./B" ∷ "./B" ∷ "./B" ∷ [])) ++ (at "/a/B" (extends ("./C" ∷ [])) ++ at "/a/C" [])) "/a/A" gets gives 4 "base=/a\n")
    -- references: in order, their merges not counted, theirs not loaded
    ∷ (loads (at "/a/A" (references ("./C" ∷ "./B" ∷ [])) ++ (at "/a/B" (references ("./n" ∷ [])) ++ at "/a/C" (extends ("./B" ∷ [])))) "/a/A"
    gets loaded 0 (bytes "base=/a\n") (2 ∷ 1 ∷ []))
    ∷ (loads (at "/a/A" (references ("./B" ∷ "./n" ∷ [])) ++ at "/a/B" (extends ("" ∷ []))) "/a/A" gets refuses 11 1)
    ∷ (loads (at "/a/A" (references ("./B" ∷ "./n" ∷ [])) ++ at "/a/B" []) "/a/A" gets refuses 8 0)
    -- a reference is not on its own chain, and may extend the asked config
    ∷ (loads (at "/a/A" (references ("./R" ∷ [])) ++ (at "/a/R" (extends ("./Q" ∷ [])) ++ at "/a/Q" (extends ("./R" ∷ [])))) "/a/A" gets refuses 9 2)
    ∷ (loads (at "/a/A" (references ("./R" ∷ [])) ++ at "/a/R" (extends ("./A" ∷ []))) "/a/A" gets loaded 0 (bytes "base=/a\n") (1 ∷ []))
    -- the walk: from the asked path as a folder upward, past a config that does not claim; a fault above the owner is not met
    ∷ (owns (at "/a/b/tsconfig.json" (include ("x" ∷ [])) ++ at "/a/tsconfig.json" []) "/a/b/x/k.ts" gets numbers (0 ∷ 0 ∷ []))
    ∷ (owns (at "/a/b/tsconfig.json" (include ("x" ∷ [])) ++ at "/a/tsconfig.json" []) "/a/b/k.ts" gets numbers (1 ∷ 1 ∷ []))
    ∷ (owns (at "/a/b/tsconfig.json" (include ("x" ∷ [])) ++ at "/a/tsconfig.json" (extends ("./n" ∷ []))) "/a/b/x/k.ts" gets numbers (0 ∷ 0 ∷ []))
    ∷ (owns (at "/a/b/tsconfig.json" (include ("x" ∷ [])) ++ at "/a/tsconfig.json" (extends ("./n" ∷ []))) "/a/b/k.ts" gets refuses 8 1)
    ∷ (owns (at "/a/k.ts/tsconfig.json" (files ("." ∷ []))) "/a/k.ts" gets numbers (0 ∷ 0 ∷ []))
    ∷ (owns (at "/tsconfig.json" (files ("." ∷ []))) "/" gets numbers (0 ∷ 0 ∷ []))
    ∷ (owns (at "/a/tsconfig.json" []) "/a/node_modules/m/k.ts" gets nothing)
    ∷ (owns (at "/a/tsconfig.json" []) "/ab/k.ts" gets nothing)
    -- the extends of a reference, too, are merged last to first
    ∷ (owns divided "/a/c/k.ts" gets numbers (0 ∷ 1 ∷ []))
    ∷ (owns divided "/a/b/k.ts" gets nothing)
    -- the solution is a reference that claims, also where the config's own lists do not
    ∷ (owns (at "/a/tsconfig.json" (files [] ++ references ("./r" ∷ [])) ++ at "/a/r.json" (include ("b" ∷ []))) "/a/b/k.ts" gets numbers (0 ∷ 1 ∷ []))
    ∷ []

pub cases : map (λ r. answer r.ask) table ≡ map (λ r. r.told) table
unfolding verdict locate listing parsed load_path owner_of next finish judge width_of operands decode_at decode find is_dir config_path only first_of strings single listed targets_of keys_of mapping option_of record_path_of flag_of text_of slot tally in_range opened fresh follows in_order too_many own_rule good_string path_of keysOf-in-Rules clash given_before fault_of fault on_first split piece_of starts leads_dot names heads components lead_of inside_node_modules joined ending trim_end all_but_last without_last parent_of last_of last_piece if_name file_name after_dot extension_of extension after_stars after_star token_at tokens eat after after_dirs match_tokens glob_of joint push_of step_by step_of walk_of normalize_with same_list left_of is_some same_path under normal string_rule record_path lead_rule after_config_dir two_stars pattern_text pattern_rule covers prefix_of same_text some_of each_of find_last_from without_slashes in_config_dir substituted adjusted built_value built allowed outside ends implied matched included excluded named_file claims is_empty_list no_references solution_style claims_ownership solution merge mapped row rows items key_rows mapping-in-Listing decimal if_named flag_row text_row flags texts placed placed_value own_base parse said meant entry rest load_by load refer_to references_of load_record load_found folders owned owner_at owner_from
cases = refl
