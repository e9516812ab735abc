-- Questions put to a book, from its bytes on, and their answers, as texts.
use Rattle.std.specs.Prelude.{ℕ, List, [], ◌∷◌, ◌++◌, map, ◌≡◌, length}
use Prim.Native.String.{String}
use Rattle.text.specs.Bytes.{Text, bytes}
use Rattle.replies.specs.Replies.{Outcome, returned, output}
use Rattle.questions.specs.Questions.{tsconfig_build, tsconfig_owner, tsconfig_candidates, tsconfig_tries}
-- what the answers are computed with
use Rattle.book.specs.Book.{next, finish, judge, verdict}
use Rattle.book.specs.Command.{width_of, operands, decode_at, decode}
use Rattle.book.specs.Find.{find, is_dir, config_path, locate}
use Rattle.book.specs.Record.{only, first_of, strings, single, listed, targets_of, keys_of, mapping, option_of, record_path_of, flag_of}
use Rattle.book.specs.Rules.{text_of, slot, tally, in_range, opened, fresh, follows, in_order, too_many, own_rule, good_string, path_of, keys_of as keys_of_in_rules, clash, given_before, fault_of, fault}
use Rattle.compare.specs.Compare.{covers}
use Rattle.components.specs.Components.{on_first, split, piece_of, starts, leads_dot, names, heads, components, trim_start, lead_of, inside_node_modules}
use Rattle.ends.specs.Ends.{joined, ending, trim_end, all_but_last, trimmed, without_last, parent_of, last_of, last_piece, if_name, file_name, after_dot, extension_of, extension}
use Rattle.glob.specs.Glob.{after_stars, after_star, token_at, tokens, eat, after, after_dirs, match_tokens, glob_of}
use Rattle.join.specs.Join.{joint, push_of, step_by, step_of, walk_of, normalize_with}
use Rattle.keys.specs.Keys.{matches_at, part_at, key_part}
use Rattle.path.specs.Path.{same_list, left_of, is_some, same_path, under, left_pieces, strip_prefix, normal}
use Rattle.path_rules.specs.Paths.{record_path, lead_rule, asked_path}
use Rattle.patterns.specs.Patterns.{after_config_dir, two_stars, pattern_text, pattern_rule}
use Rattle.questions.specs.Questions.{asked as asked_in_questions, build, candidates_of, tries_of, owner_reply, owner, book}
use Rattle.replies.specs.Replies.{fit, listed as listed_in_replies}
use Rattle.strings.specs.Strings.{string_rule}
use Rattle.text.specs.Text.{prefix_of, same_text, some_of, each_of, find_from, find_last_from}
use Rattle.tsconfig.specs.Build.{without_slashes, in_config_dir, substituted, adjusted, built_value, built}
use Rattle.tsconfig.specs.Claims.{allowed, outside, ends, implied, matched, included, excluded, named_file, claims, is_empty_list, no_references, solution_style, claims_ownership, solution}
use Rattle.tsconfig.specs.Config.{merge, mapped}
use Rattle.tsconfig.specs.Laid.{laid}
use Rattle.tsconfig.specs.Listing.{row, rows as rows_in_listing, items, key_rows, mapping as mapping_in_listing, decimal, if_named, flag_row, text_row, flags, texts, listing}
use Rattle.tsconfig.specs.Mapping.{equal_key, prefix_len, longer, best_key, filled_at, filled, from_best, from_equal, from_paths, aliases, from_base_url, or_if_none, candidates, longer_text, root_above, in_roots, from_root, root_tries, tries}
use Rattle.tsconfig.specs.Parsed.{placed, placed_value, own_base, parse, said, parsed}
use Rattle.tsconfig_resolver.specs.Find.{meant, entry}
use Rattle.tsconfig_resolver.specs.Load.{load_by, load}
use Rattle.tsconfig_resolver.specs.Project.{refer_to, references_of, load_record, load_found, load_path, folders, owned, owner_at, owner_from, owner_of}

-- A question line of 01's program: `B` and a config, `O` and a file, `C`, a config and a specifier, `T`, a config, a directory and a specifier.
pub data Question : Type 0 where
  B O : String → Question
  C : String → String → Question
  T : String → String → String → Question

-- room for every answer
abbrev pub ample : ℕ
ample = 1048576

abbrev pub outcome : Text → Text → Question → Outcome
outcome commands text (B path) = tsconfig_build commands text (bytes path) ample
outcome commands text (O path) = tsconfig_owner commands text (bytes path)
outcome commands text (C path specifier) = tsconfig_candidates commands text (bytes path) (bytes specifier) ample
outcome commands text (T path directory specifier) = tsconfig_tries commands text (bytes path) (bytes directory) (bytes specifier) ample

-- An answer: the returned numbers, then the bytes of the output.
abbrev pub Told : Type 0
Told = List ℕ

-- "number, place": a refusal
abbrev pub refuses : ℕ → ℕ → Told
refuses number place = number ∷ place ∷ 0 ∷ 0 ∷ 0 ∷ []

-- two numbers, and what is written
abbrev pub gives : ℕ → ℕ → String → Told
gives first second written = 0 ∷ 0 ∷ first ∷ second ∷ length (bytes written) ∷ bytes written

-- what is told of a question
unfoldable pub tell : Text → Text → Question → Told
unfolding tsconfig_build tsconfig_owner tsconfig_candidates tsconfig_tries returned output next finish judge verdict width_of operands decode_at decode find is_dir config_path locate only first_of strings single listed targets_of keys_of mapping option_of record_path_of flag_of text_of slot tally in_range opened fresh follows in_order too_many own_rule good_string path_of keys_of_in_rules clash given_before fault_of fault covers on_first split piece_of starts leads_dot names heads components trim_start lead_of inside_node_modules joined ending trim_end all_but_last trimmed without_last parent_of last_of last_piece if_name file_name after_dot extension_of extension after_stars after_star token_at tokens eat after after_dirs match_tokens glob_of joint push_of step_by step_of walk_of normalize_with matches_at part_at key_part same_list left_of is_some same_path under left_pieces strip_prefix normal record_path lead_rule asked_path after_config_dir two_stars pattern_text pattern_rule asked_in_questions build candidates_of tries_of owner_reply owner book fit listed_in_replies string_rule prefix_of same_text some_of each_of find_from find_last_from without_slashes in_config_dir substituted adjusted built_value built allowed outside ends implied matched included excluded named_file claims is_empty_list no_references solution_style claims_ownership solution merge mapped laid row rows_in_listing items key_rows mapping_in_listing decimal if_named flag_row text_row flags texts listing equal_key prefix_len longer best_key filled_at filled from_best from_equal from_paths aliases from_base_url or_if_none candidates longer_text root_above in_roots from_root root_tries tries placed placed_value own_base parse said parsed meant entry load_by load refer_to references_of load_record load_found load_path folders owned owner_at owner_from owner_of
tell commands text q = returned (outcome commands text q) ++ output (outcome commands text q) []

-- a question and its answer
pub record Row : Type 0 where
  pub asked : Question
  pub told : Told

infix 5 ◌gets◌
abbrev pub ◌gets◌ : Question → Told → Row
q gets t = record { asked = q; told = t }

-- each question about the book of these commands and this text gets its answer
abbrev pub Answers : String → String → List Row → Type 0
Answers commands text rows = map (tell (bytes commands) (bytes text)) (map (λ r. r.asked) rows) ≡ map (λ r. r.told) rows
