-- Worked examples of a config: parsed, merged, built, its mapping, and the file test. Configs are written as books and shown as listings.
use Prim.Native.Nat.{ℕ, suc, ◌+◌}
use Prim.Native.String.{String}
use mathlib.Core.List.{List, [], ◌∷◌, ◌++◌, map}
use mathlib.Core.Path.{◌≡◌, refl}
use mathlib.Core.Bool.{Bool, cond}
use Rattle.text.specs.Bytes.{Text, bytes}
use Rattle.book.specs.declared.Cmd.{Cmd}
use Rattle.book.specs.Answer.{Answer, refused, given}
use Rattle.book.specs.Command as command
use Rattle.book.specs.Book.{verdict}
use Rattle.verdicts.proofs.Written.{Line, ◌says◌, turns, option, commands_of, text_of_lem, at, files, include, exclude, root_dirs, base_url, paths, key}
use Rattle.tsconfig.specs.Config.{merge}
use Rattle.tsconfig.specs.Parsed.{Parsed, parsed}
use Rattle.tsconfig.specs.Build.{Settings, built}
use Rattle.tsconfig.specs.Claims.{Site, claims, claims_ownership, solution}
use Rattle.tsconfig.specs.Mapping.{candidates, tries}
use Rattle.tsconfig.specs.Listing.{listing}
-- what the answers are computed with
use Rattle.book.specs.Book.{next, finish, judge}
use Rattle.book.specs.Command.{width_of, operands, decode_at, decode}
use Rattle.book.specs.Record.{only, first_of, strings, single, listed, targets_of, keys_of, mapping, option_of, record_path_of, flag_of}
use Rattle.book.specs.Rules.{text_of, slot, tally, in_range, opened, fresh, follows, in_order, too_many, own_rule, good_string, path_of, keys_of as keysOf-in-Rules, clash, given_before, fault_of, fault}
use Rattle.components.specs.Components.{on_first, split, piece_of, starts, leads_dot, names, heads, components, trim_start, lead_of, inside_node_modules}
use Rattle.ends.specs.Ends.{joined, ending, trim_end, all_but_last, trimmed, without_last, parent_of, last_of, last_piece, if_name, file_name, after_dot, extension_of, extension}
use Rattle.glob.specs.Glob.{after_stars, after_star, token_at, tokens, eat, after, after_dirs, match_tokens, glob_of}
use Rattle.join.specs.Join.{joint, push_of, step_by, step_of, walk_of, normalize_with}
use Rattle.keys.specs.Keys.{matches_at, part_at, key_part}
use Rattle.path.specs.Path.{same_list, left_of, is_some, same_path, under, left_pieces, strip_prefix, normal}
use Rattle.strings.specs.Strings.{string_rule}
use Rattle.path_rules.specs.Paths.{record_path, lead_rule}
use Rattle.patterns.specs.Patterns.{after_config_dir, two_stars, pattern_text, pattern_rule}
use Rattle.compare.specs.Compare.{covers}
use Rattle.text.specs.Text.{prefix_of, same_text, some_of, each_of, find_from, find_last_from}
use Rattle.tsconfig.specs.Build.{without_slashes, in_config_dir, substituted, adjusted, built_value}
use Rattle.tsconfig.specs.Claims.{allowed, outside, ends, implied, matched, included, excluded, named_file, is_empty_list, no_references, solution_style}
use Rattle.tsconfig.specs.Config.{mapped}
use Rattle.tsconfig.specs.Listing.{row, rows, items, key_rows, mapping as mapping-in-Listing, decimal, if_named, flag_row, text_row, flags, texts}
use Rattle.tsconfig.specs.Mapping.{equal_key, prefix_len, longer, best_key, filled_at, filled, from_best, from_equal, from_paths, aliases, from_base_url, or_if_none, longer_text, root_above, in_roots, from_root, root_tries}
use Rattle.tsconfig.specs.Parsed.{placed, placed_value, own_base, parse, said}

pub data Case : Type 0 where
  -- the first record as parsed
  parses : List Line → Case
  -- the first record merged with the second, nearer first
  merges : List Line → Case
  -- the first record built at the path
  builds : String → List Line → Case
  -- the candidates of a specifier, in the first record
  maps : List Line → String → Case
  -- the paths tried from a directory for a specifier, in the first record
  tried : List Line → String → String → Case
  -- the file test of the first record
  takes : List Line → String → Case
  -- the first record claims_ownership the path, the others being its references; the record that is the solution
  claimed : List Line → String → Case

abbrev pub records_of_lem : Text → Answer (List (List Cmd)) → List Parsed
records_of_lem t (refused n p) = []
records_of_lem t (given rs) = map (parsed t) rs

abbrev pub records : List Line → List Parsed
records ls = records_of_lem (text_of_lem ls) (verdict (commands_of ls) (text_of_lem ls))

abbrev pub own : Parsed → Settings
own r = record { named = r.says; base = r.base }

abbrev pub sites : ℕ → List Parsed → List Site
sites n [] = []
sites n (r ∷ rs) = record { number = n; path = r.path; config = built r.path (own r) } ∷ sites (suc n) rs

-- what is asked of the first of a list
abbrev pub of_first : {A : Type 0} → (A → List A → List Text) → List A → List Text
of_first f [] = bytes "no record" ∷ []
of_first f (r ∷ rs) = f r rs

abbrev pub of_two : Parsed → List Parsed → List Text
of_two a [] = bytes "no other record" ∷ []
of_two a (b ∷ rs) = listing [] (merge (own a) (own b)) ∷ []

abbrev pub of_bool : Bool → List Text
of_bool b = cond b (bytes "yes") (bytes "no") ∷ []

-- a number below ten
abbrev pub digit : ℕ → Text
digit n = (48 + n) ∷ []

abbrev pub answer : Case → List Text
answer (parses ls) = of_first (λ r rs. listing r.references (own r) ∷ []) (records ls)
answer (merges ls) = of_first of_two (records ls)
answer (builds p ls) = of_first (λ r rs. listing r.references (built (bytes p) (own r)) ∷ []) (records ls)
answer (maps ls s) = of_first (λ c rs. candidates c.config (bytes s)) (sites 0 (records ls))
answer (tried ls d s) = of_first (λ c rs. tries c.config (bytes d) (bytes s)) (sites 0 (records ls))
answer (takes ls p) = of_first (λ c rs. of_bool (claims (bytes p) c)) (sites 0 (records ls))
answer (claimed ls p) = of_first (λ c rs. of_bool (claims_ownership (bytes p) c rs) ++ (digit (solution (bytes p) c rs) ∷ [])) (sites 0 (records ls))

abbrev pub allow_js : List Line
allow_js = turns 8 1 ∷ []

pub record Row : Type 0 where
  pub ask : Case
  pub told : List String

infix 5 ◌gets◌
abbrev pub ◌gets◌ : Case → List String → Row
c gets t = record { ask = c; told = t }

abbrev pub yes : List String
yes = "yes" ∷ []

abbrev pub no : List String
no = "no" ∷ []

abbrev pub p : List Line → List Line
p ls = at "/p/tsconfig.json" ls

abbrev pub table : List Row
table =
    -- parsed: "Parsing sets paths base, root dirs, outDir and declarationDir from the record's own directory, a leading `${configDir}` kept"
    (parses
    (at "/p/q/a.json" (base_url "../u" ++ (root_dirs ("r" ∷ "${configDir}/r" ∷ "/x/../y" ∷ []) ++ (command.out_dir says "" ∷ command.declaration_dir says "./d/" ∷ files ("f" ∷ [])))))
    gets "files=f\nbaseUrl=../u\nbase=/p/u\nrootDir=/p/q/r\nrootDir=${configDir}/r\nrootDir=/x/../y\noutDir=\ndeclarationDir=/p/q/d\n" ∷ [])
    ∷ (parses (at "/p/q/a.json" []) gets "base=/p/q\n" ∷ [])
    ∷ (parses (at "/p/q/a.json" (base_url "${configDir}/u")) gets "baseUrl=${configDir}/u\nbase=${configDir}/u\n" ∷ [])
    -- merged: "a field is the nearer's if named, else the other's"
    ∷ (merges (at "/a/A" (files [] ++ (turns 2 0 ∷ [])) ++ at "/b/B" (files ("f" ∷ []) ++ (include ("g" ∷ []) ++ (turns 2 1 ∷ turns 3 1 ∷ []))))
    gets "files\ninclude=g\nbase=/b\nflag 2=0\nflag 3=1\n" ∷ [])
    -- "the base is the nearer's if it names baseUrl"
    ∷ (merges (at "/a/A" (base_url "u") ++ at "/b/B" (base_url "v" ++ paths [])) gets "baseUrl=u\nbase=/a/u\npaths\n" ∷ [])
    -- "else the other's if that does"
    ∷ (merges (at "/a/A" (paths []) ++ at "/b/B" (base_url "v")) gets "baseUrl=v\nbase=/b/v\npaths\n" ∷ [])
    -- "else the nearer's if it names paths"
    ∷ (merges (at "/a/A" (paths []) ++ at "/b/B" (paths (key "k" []))) gets "base=/a\npaths\n" ∷ [])
    -- "else the other's"
    ∷ (merges (at "/a/A" [] ++ at "/b/B" (paths (key "k" ("t" ∷ [])))) gets "base=/b\nkey=k\ntarget=t\n" ∷ [])
    ∷ (merges (at "/a/A" [] ++ at "/b/B" []) gets "base=/b\n" ∷ [])
    -- built: "Files, include, exclude and the printed baseUrl are read from the built config's directory, inherited or not"
    ∷ (builds "/q/tsconfig.json"
    (p (files ("f/" ∷ "/f/" ∷ "../f" ∷ "" ∷ []) ++ (base_url "u" ++ (paths (key "k" ("t" ∷ "../*" ∷ "" ∷ [])) ++ (root_dirs ("r" ∷ []) ++ (command.reference says "./c" ∷ []))))))
    gets "files=/q/f\nfiles=/f/\nfiles=/f\nfiles=\nbaseUrl=/q/u\nbase=/p/u\nkey=k\ntarget=/p/u/t\ntarget=/p/*\ntarget=\nreference=./c\nrootDir=/p/r\n" ∷ [])
    -- `${configDir}` is joined, never normalised
    ∷ (builds "/q/tsconfig.json"
    (p (files ("${configDir}" ∷ "${configDir}//x/../y/" ∷ "a/${configDir}" ∷ []) ++ (base_url "${configDir}/u" ++ (paths (key "k" ("${configDir}/*" ∷ "../*" ∷ [])) ++ (root_dirs ("${configDir}r" ∷ []) ++ (command.out_dir says "${configDir}" ∷ []))))))
    gets "files=/q/\nfiles=/q/x/../y/\nfiles=/q/a/${configDir}\nbaseUrl=/q/u\nbase=/q/u\nkey=k\ntarget=/q/*\ntarget=/q/*\nrootDir=/q/r\noutDir=/q/\n" ∷ [])
    ∷ (builds "/tsconfig.json" (p (command.out_dir says "${configDir}" ∷ command.declaration_dir says "${configDir}/../d" ∷ turns 10 1 ∷ turns 2 0 ∷ option 6 "" ∷ option 0 "react" ∷ []))
    gets "base=/p\noutDir=/\ndeclarationDir=/../d\nflag 2=0\nflag 10=1\ntext 0=react\ntext 6=\n" ∷ [])
    -- what a `..` drops goes with the slashes before it; the base itself stays as it is
    ∷ (builds "/p/tsconfig.json" (p (base_url "//u//w" ++ paths (key "k" (".." ∷ "." ∷ "../x" ∷ "../.." ∷ [])))) gets "baseUrl=//u//w\nbase=//u//w\nkey=k\ntarget=//u\ntarget=//u//w\ntarget=//u/x\ntarget=/\n" ∷ [])
    -- the mapping: the longest prefix, of equal ones the earlier
    ∷ (maps (p (paths (key "*" ("1/*" ∷ []) ++ key "a*" ("2/*" ∷ "3" ∷ [])))) "abc" gets "/p/2/bc" ∷ "/p/3" ∷ [])
    ∷ (maps (p (paths (key "a*c" ("1/*" ∷ []) ++ key "a*" ("2/*" ∷ [])))) "abc" gets "/p/1/b" ∷ [])
    ∷ (maps (p (paths (key "ab*bc" ("1" ∷ []) ++ key "abc" ("2/*" ∷ [])))) "abc" gets "/p/2/*" ∷ [])
    -- "An equal key wins, empty or not."
    ∷ (maps (p (paths (key "*" ("1" ∷ []) ++ key "abc" []))) "abc" gets [])
    -- a wildcard with no targets: nothing, and no shorter key
    ∷ (maps (p (paths (key "*" ("1" ∷ []) ++ key "a*" []))) "abc" gets [])
    ∷ (maps (p (base_url "u" ++ paths (key "*" ("1" ∷ []) ++ key "a*" []))) "abc" gets "/p/u/abc" ∷ [])
    -- only the first star of a target is filled, and the filled text stays
    ∷ (maps (p (paths (key "a/*" ("t/*/*" ∷ [])))) "a/../b" gets "/p/t/../b/*" ∷ [])
    -- what starts with a dot is not mapped
    ∷ (maps (p (base_url "u" ++ paths (key "*" ("1" ∷ [])))) "./x" gets "/p/u/x" ∷ [])
    ∷ (tried (p (base_url "u" ++ paths (key "*" ("1" ∷ [])))) "/p" "x" gets "/p/u/1" ∷ "/p/u/x" ∷ [])
    ∷ (tried (p (root_dirs ("src" ∷ "gen" ∷ "/p/src/" ∷ []))) "/p/src/a" "./x" gets "/p/src/a/x" ∷ "/p/gen/a/x" ∷ [])
    ∷ (tried (p (root_dirs ("src" ∷ "gen" ∷ []))) "/p/src" "." gets "/p/src" ∷ "" ∷ [])
    ∷ (tried (p (base_url "u")) "/p/node_modules/m" "x" gets [])
    -- the file test: "`files` compares by components, patterns by text"
    ∷ (takes (p (files ("/p/./k.ts" ∷ []))) "/p/k.ts" gets yes)
    ∷ (takes (p (include ("/p/./k.ts" ∷ []))) "/p/k.ts" gets no)
    -- `files` stands before the extension test
    ∷ (takes (p (files ("k.js" ∷ "LICENSE" ∷ []))) "/p/k.js" gets yes)
    ∷ (takes (p (files ("k.js" ∷ "LICENSE" ∷ []))) "/p/LICENSE" gets yes)
    ∷ (takes (p (include ("k.js" ∷ "LICENSE" ∷ []))) "/p/k.js" gets no)
    ∷ (takes (p (include ("k.js" ∷ "LICENSE" ∷ []))) "/p/LICENSE" gets no)
    ∷ (takes (p (include ("k.js" ∷ []) ++ allow_js)) "/p/k.js" gets yes)
    -- no include: none where files are named, else all below
    ∷ (takes (p (files [])) "/p/k.ts" gets no)
    ∷ (takes (p []) "/p/src/k.mts" gets yes)
    ∷ (takes (p []) "/pq/k.ts" gets no)
    ∷ (takes (p []) "/p/.ts" gets no)
    ∷ (takes (p []) "/p/k.vue" gets no)
    -- the implicit `/**/*`
    ∷ (takes (p (include ("src" ∷ []))) "/p/src/a/k.ts" gets yes)
    ∷ (takes (p (include ("src" ∷ []))) "/p/src/k.vue" gets no)
    ∷ (takes (p (include ("src" ∷ []))) "/p/src.ts" gets no)
    ∷ (takes (p (include ("src.d" ∷ []))) "/p/src.d/k.ts" gets no)
    ∷ (takes (p (include ("/p/src/" ∷ []))) "/p/src/k.ts" gets yes)
    ∷ (takes (p (include ("" ∷ []))) "/q/k.ts" gets yes)
    -- patterns
    ∷ (takes (p (include ("a?b.ts" ∷ []))) "/p/axb.ts" gets yes)
    ∷ (takes (p (include ("a?b.ts" ∷ []))) "/p/a/b.ts" gets no)
    ∷ (takes (p (include ("*.ts" ∷ []))) "/p/a/k.ts" gets no)
    ∷ (takes (p (include ("**/k*" ∷ []))) "/p/a/b/k.ts" gets yes)
    ∷ (takes (p (include ("**/k*" ∷ []))) "/p/k.ts" gets yes)
    -- equal text is a match, whatever the extension
    ∷ (takes (p (include ("x.*" ∷ []))) "/p/x.*" gets yes)
    ∷ (takes (p (include ("x.*" ∷ []))) "/p/x.vue" gets no)
    -- exclude, with the extension test for a pattern that ends in a star
    ∷ (takes (p (exclude ("src" ∷ []))) "/p/src/k.ts" gets no)
    ∷ (takes (p (include ("**/*.vue" ∷ []) ++ exclude ("src" ∷ []))) "/p/src/k.vue" gets yes)
    ∷ (takes (p (include ("**/*.vue" ∷ []) ++ exclude ("src/*.vue" ∷ []))) "/p/src/k.vue" gets no)
    ∷ (takes (p (files ("src/k.ts" ∷ []) ++ exclude ("src" ∷ []))) "/p/src/k.ts" gets yes)
    -- the solution: the first reference that takes the path, else the config itself
    ∷ (claimed (p (include ("src" ∷ [])) ++ (at "/p/a.json" (include ("a" ∷ [])) ++ at "/p/b.json" (include ("a" ∷ "src" ∷ [])))) "/p/a/k.ts" gets "yes" ∷ "1" ∷ [])
    ∷ (claimed (p (include ("src" ∷ [])) ++ (at "/p/a.json" (include ("a" ∷ [])) ++ at "/p/b.json" (include ("a" ∷ "src" ∷ [])))) "/p/src/k.ts" gets "yes" ∷ "2" ∷ [])
    ∷ (claimed (p (include ("src" ∷ [])) ++ at "/p/a.json" (include ("a" ∷ []))) "/p/src/k.ts" gets "yes" ∷ "0" ∷ [])
    ∷ (claimed (p (include ("src" ∷ [])) ++ at "/p/a.json" (include ("a" ∷ []))) "/p/k.ts" gets "no" ∷ "0" ∷ [])
    ∷ []

pub cases : map (λ r. answer r.ask) table ≡ map (λ r. map bytes r.told) table
unfolding verdict built claims claims_ownership solution merge listing candidates tries parsed next finish judge width_of operands decode_at decode only first_of strings single listed targets_of keys_of mapping option_of record_path_of flag_of text_of slot tally in_range opened fresh follows in_order too_many own_rule good_string path_of keysOf-in-Rules clash given_before fault_of fault on_first split piece_of starts leads_dot names heads components trim_start lead_of inside_node_modules joined ending trim_end all_but_last trimmed without_last parent_of last_of last_piece if_name file_name after_dot extension_of extension after_stars after_star token_at tokens eat after after_dirs match_tokens glob_of joint push_of step_by step_of walk_of normalize_with matches_at part_at key_part same_list left_of is_some same_path under left_pieces strip_prefix normal string_rule record_path lead_rule after_config_dir two_stars pattern_text pattern_rule covers prefix_of same_text some_of each_of find_from find_last_from without_slashes in_config_dir substituted adjusted built_value allowed outside ends implied matched included excluded named_file is_empty_list no_references solution_style mapped row rows items key_rows mapping-in-Listing decimal if_named flag_row text_row flags texts equal_key prefix_len longer best_key filled_at filled from_best from_equal from_paths aliases from_base_url or_if_none longer_text root_above in_roots from_root root_tries placed placed_value own_base parse said
cases = refl
