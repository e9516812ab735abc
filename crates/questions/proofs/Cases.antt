-- Worked examples of the four questions, from the lent bytes on: what is returned, and what the lent output holds after the call.
use Prim.Native.Nat.{ℕ}
use Prim.Native.String.{String}
use mathlib.Core.List.{List, [], ◌∷◌, ◌++◌, map}
use mathlib.Core.Path.{◌≡◌, refl}
use lib.ListN.{length}
use Rattle.text.specs.Bytes.{Text, bytes, star}
use Rattle.verdicts.proofs.Written.{Line, ◌says◌, commands_of, text_of_lem, times, at, extends, files, base_url, paths, key}
use Rattle.book.specs.Command as command
use Rattle.tsconfig.specs.Laid.{laid}
use Rattle.replies.specs.Replies.{Outcome, returned, output, fit, listed as listed-in-Questions}
use Rattle.questions.specs.Questions.{tsconfig_build, tsconfig_owner, tsconfig_candidates, tsconfig_tries, asked, build, candidates_of, tries_of, owner_reply, owner, book}
use Rattle.book.specs.Book.{next, finish, judge, verdict}
use Rattle.book.specs.Command.{width_of, operands, decode_at, decode}
use Rattle.book.specs.Find.{find, is_dir, config_path, locate}
use Rattle.book.specs.Record.{only, first_of, strings, single, listed, targets_of, keys_of, mapping, option_of, record_path_of, flag_of}
use Rattle.book.specs.Rules.{text_of, slot, tally, in_range, opened, fresh, follows, in_order, too_many, own_rule, good_string, path_of, keys_of as keysOf-in-Rules, clash, given_before, fault_of, fault}
use Rattle.components.specs.Components.{on_first, split, piece_of, starts, leads_dot, names, heads, components, trim_start, lead_of, inside_node_modules}
use Rattle.ends.specs.Ends.{joined, ending, trim_end, all_but_last, trimmed, without_last, parent_of, last_of, last_piece, if_name, file_name, after_dot, extension_of, extension}
use Rattle.glob.specs.Glob.{after_stars, after_star, token_at, tokens, eat, after as after-in-Glob, after_dirs, match_tokens, glob_of}
use Rattle.join.specs.Join.{joint, push_of, step_by, step_of, walk_of, normalize_with}
use Rattle.keys.specs.Keys.{matches_at, part_at, key_part}
use Rattle.path.specs.Path.{same_list, left_of, is_some, same_path, under, left_pieces, strip_prefix, normal}
use Rattle.strings.specs.Strings.{string_rule}
use Rattle.path_rules.specs.Paths.{record_path, lead_rule, asked_path}
use Rattle.patterns.specs.Patterns.{after_config_dir, two_stars, pattern_text, pattern_rule}
use Rattle.compare.specs.Compare.{covers}
use Rattle.text.specs.Text.{prefix_of, same_text, some_of, each_of, find_from, find_last_from}
use Rattle.tsconfig.specs.Build.{without_slashes, in_config_dir, substituted, adjusted, built_value, built}
use Rattle.tsconfig.specs.Claims.{allowed, outside, ends, implied, matched, included, excluded, named_file, claims, is_empty_list, no_references, solution_style, claims_ownership, solution}
use Rattle.tsconfig.specs.Config.{merge, mapped}
use Rattle.tsconfig.specs.Listing.{row, rows, items, key_rows, mapping as mapping-in-Listing, decimal, if_named, flag_row, text_row, flags, texts, listing}
use Rattle.tsconfig.specs.Mapping.{equal_key, prefix_len, longer, best_key, filled_at, filled, from_best, from_equal, from_paths, aliases, from_base_url, or_if_none, candidates as candidates-in-Mapping, longer_text, root_above, in_roots, from_root, root_tries, tries as tries-in-Mapping}
use Rattle.tsconfig.specs.Parsed.{placed, placed_value, own_base, parse, said, parsed}
use Rattle.tsconfig_resolver.specs.Find.{meant, entry}
use Rattle.tsconfig_resolver.specs.Load.{load_by, load}
use Rattle.tsconfig_resolver.specs.Project.{refer_to, references_of, load_record, load_found, load_path, folders, owned, owner_at, owner_from, owner_of}

-- what the answers are computed with

pub data Case : Type 0 where
  -- a question, its texts, and what the lent output holds before it: its length is the room
  builds : List Line → String → String → Case
  owns : List Line → String → Case
  candidates : List Line → String → String → String → Case
  tries : List Line → String → String → String → String → Case
  -- the layout of texts in which one byte stands so many times
  lays : List ℕ → Case

-- the output after the call, and the numbers returned
abbrev pub after : Outcome → Text → List (List ℕ)
after o old = returned o ∷ output o old ∷ []

abbrev pub answer : Case → List (List ℕ)
answer (builds ls p old) = after (tsconfig_build (commands_of ls) (text_of_lem ls) (bytes p) (length (bytes old))) (bytes old)
answer (owns ls p) = after (tsconfig_owner (commands_of ls) (text_of_lem ls) (bytes p)) []
answer (candidates ls p s old) =
    after (tsconfig_candidates (commands_of ls) (text_of_lem ls) (bytes p) (bytes s) (length (bytes old))) (bytes old)
answer (tries ls p d s old) =
    after (tsconfig_tries (commands_of ls) (text_of_lem ls) (bytes p) (bytes d) (bytes s) (length (bytes old))) (bytes old)
answer (lays ns) = laid (map (λ n. times n (star ∷ [])) ns) ∷ []

pub record Row : Type 0 where
  pub ask : Case
  pub told : List (List ℕ)

infix 5 ◌gets◌
abbrev pub ◌gets◌ : Case → List (List ℕ) → Row
c gets t = record { ask = c; told = t }

-- a refusal's number and place, and the old bytes
abbrev pub refuses : ℕ → ℕ → String → List (List ℕ)
refuses n p old = (n ∷ p ∷ 0 ∷ 0 ∷ 0 ∷ []) ∷ bytes old ∷ []

-- two numbers, the bytes written, and the output
abbrev pub gives : ℕ → ℕ → ℕ → String → List (List ℕ)
gives a b n out = (0 ∷ 0 ∷ a ∷ b ∷ n ∷ []) ∷ bytes out ∷ []

abbrev pub p : List Line
p = at "/p/tsconfig.json" (extends ("../b" ∷ []) ++ (files ("k.ts" ∷ []) ++ paths (key "@/*" ("s/*" ∷ "" ∷ [])))) ++ at "/b.json" (base_url "u")

-- a record left open
abbrev pub unclosed : List Line
unclosed = command.begin says "/p/tsconfig.json" ∷ []

abbrev pub table : List Row
table =
    -- the answer, and then the old bytes
    (builds p "/p" "......................................................................" gets gives 0 1 65 "files=/p/k.ts\nbaseUrl=/p/u\nbase=/u\nkey=@/*\ntarget=/u/s/*\ntarget=\n.....")
    -- "output exact, one byte short 13": 13 tells the bytes needed, and "Output keeps its old bytes."
    ∷ (builds p "/b" "..................." gets gives 1 0 19 "baseUrl=/u\nbase=/u\n")
    ∷ (builds p "/b" ".................." gets refuses 13 19 "..................")
    -- candidates: the count; "each a 2-byte length, low byte first, and bytes"
    ∷ (candidates p "/p" "@/x" "............" gets gives 2 0 10 "\u{6}\0/u/s/x\0\0..")
    ∷ (candidates p "/p" "@/x" "........." gets refuses 13 10 ".........")
    ∷ (candidates p "/p" "q" "......" gets gives 1 0 6 "\u{4}\0/u/q")
    ∷ (candidates p "/b" "" ".." gets gives 1 0 2 "\0\0")
    ∷ (lays (2 ∷ 0 ∷ []) gets bytes "\u{2}\0**\0\0" ∷ [])
    ∷ (lays (256 ∷ []) gets (0 ∷ 1 ∷ times 256 (star ∷ [])) ∷ [])
    -- tries
    ∷ (tries p "/p" "/x" "@/x" ".................." gets gives 3 0 18 "\u{6}\0/u/s/x\0\0\u{6}\0/u/@/x")
    ∷ (tries p "/p" "/x/node_modules" "@/x" "." gets gives 0 0 0 ".")
    -- owner: "answers 65,535 twice for none"
    ∷ (owns p "/p/k.ts" gets gives 0 0 0 "")
    ∷ (owns p "/p/z.ts" gets gives 65535 65535 0 "")
    -- "Each question checks the book first", then the question (7), then it loads (8), then it writes (13)
    ∷ (builds unclosed "p" "." gets refuses 2 5 ".")
    ∷ (owns unclosed "p" gets refuses 2 5 "")
    ∷ (candidates unclosed "p" "a\\b" "." gets refuses 2 5 ".")
    ∷ (tries unclosed "p" "p" "x" "." gets refuses 2 5 ".")
    ∷ (builds p "/p/" "." gets refuses 7 0 ".")
    ∷ (owns p "/p?" gets refuses 7 0 "")
    ∷ (candidates p "/n" "a\\b" "." gets refuses 7 0 ".")
    ∷ (tries p "/n" "p" "x" "." gets refuses 7 0 ".")
    ∷ (builds p "/n" "." gets refuses 8 65535 ".")
    ∷ (candidates p "/n" "x" "" gets refuses 8 65535 "")
    ∷ (builds p "/b" "" gets refuses 13 19 "")
    ∷ []

pub cases : map (λ r. answer r.ask) table ≡ map (λ r. r.told) table
unfolding tsconfig_build tsconfig_owner tsconfig_candidates tsconfig_tries returned output laid next finish judge verdict width_of operands decode_at decode find is_dir config_path locate only first_of strings single listed targets_of keys_of mapping option_of record_path_of flag_of text_of slot tally in_range opened fresh follows in_order too_many own_rule good_string path_of keysOf-in-Rules clash given_before fault_of fault on_first split piece_of starts leads_dot names heads components trim_start lead_of inside_node_modules joined ending trim_end all_but_last trimmed without_last parent_of last_of last_piece if_name file_name after_dot extension_of extension after_stars after_star token_at tokens eat after-in-Glob after_dirs match_tokens glob_of joint push_of step_by step_of walk_of normalize_with matches_at part_at key_part same_list left_of is_some same_path under left_pieces strip_prefix normal fit asked build listed-in-Questions candidates_of tries_of owner_reply owner book string_rule record_path lead_rule after_config_dir two_stars pattern_text pattern_rule covers asked_path prefix_of same_text some_of each_of find_from find_last_from without_slashes in_config_dir substituted adjusted built_value built allowed outside ends implied matched included excluded named_file claims is_empty_list no_references solution_style claims_ownership solution merge mapped row rows items key_rows mapping-in-Listing decimal if_named flag_row text_row flags texts listing equal_key prefix_len longer best_key filled_at filled from_best from_equal from_paths aliases from_base_url or_if_none candidates-in-Mapping longer_text root_above in_roots from_root root_tries tries-in-Mapping placed placed_value own_base parse said parsed meant entry load_by load refer_to references_of load_record load_found load_path folders owned owner_at owner_from owner_of
cases = refl
