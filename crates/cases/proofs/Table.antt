-- The proved cases: each answer of the table is computed.
use mathlib.Core.Path.{◌≡◌, refl}
use mathlib.Core.List.{map}
use Rattle.text.specs.Bytes.{bytes}
use Rattle.cases.specs.Table.{table, answer}
-- what the answers are computed with
use Rattle.book.specs.Book.{next, finish, judge, verdict}
use Rattle.book.specs.Command.{width_of, operands, decode_at, decode}
use Rattle.book.specs.Find.{find, is_dir, config_path, locate}
use Rattle.book.specs.Record.{only, first_of, strings, single, listed, targets_of, keys_of, mapping, option_of, record_path_of, flag_of}
use Rattle.book.specs.Rules.{text_of, slot, tally, in_range, opened, fresh, follows, in_order, too_many, own_rule, good_string, path_of, keys_of as keys_of_in_rules, clash, given_before, fault_of, fault}
use Rattle.compare.specs.Compare.{covers}
use Rattle.components.specs.Components.{on_first, split, piece_of, starts, leads_dot, names, heads, components, trim_start, lead_of, inside_node_modules}
use Rattle.ends.specs.Ends.{joined, ending, trim_end, all_but_last, trimmed, without_last, parent_of, last_of, last_piece, if_name, file_name, after_dot, extension_of, extension}
use Rattle.glob.specs.Glob.{after_stars, after_star, token_at, tokens, eat, after, after_dirs, match_tokens, glob_of}
use Rattle.join.specs.Join.{joint, push_of, step_by, step_of, walk_of, normalize_with}
use Rattle.keys.specs.Keys.{matches_at, part_at, key_part}
use Rattle.path.specs.Path.{same_list, left_of, is_some, same_path, under, left_pieces, strip_prefix, normal}
use Rattle.path_rules.specs.Paths.{record_path, lead_rule, asked_path}
use Rattle.patterns.specs.Patterns.{after_config_dir, two_stars, pattern_text, pattern_rule}
use Rattle.questions.specs.Questions.{asked, build, candidates_of, tries_of, owner_reply, owner, book, tsconfig_build, tsconfig_owner, tsconfig_candidates, tsconfig_tries}
use Rattle.replies.specs.Replies.{fit, listed as listed_in_replies, output}
use Rattle.strings.specs.Strings.{string_rule}
use Rattle.text.specs.Text.{prefix_of, same_text, some_of, each_of, find_from, find_last_from}
use Rattle.tsconfig.specs.Build.{without_slashes, in_config_dir, substituted, adjusted, built_value, built}
use Rattle.tsconfig.specs.Claims.{allowed, outside, ends, implied, matched, included, excluded, named_file, claims, is_empty_list, no_references, solution_style, claims_ownership, solution}
use Rattle.tsconfig.specs.Config.{merge, mapped}
use Rattle.tsconfig.specs.Laid.{laid}
use Rattle.tsconfig.specs.Listing.{row, rows, items, key_rows, mapping as mapping_in_listing, decimal, if_named, flag_row, text_row, flags, texts, listing}
use Rattle.tsconfig.specs.Mapping.{equal_key, prefix_len, longer, best_key, filled_at, filled, from_best, from_equal, from_paths, aliases, from_base_url, or_if_none, candidates, longer_text, root_above, in_roots, from_root, root_tries, tries}
use Rattle.tsconfig.specs.Parsed.{placed, placed_value, own_base, parse, said, parsed}
use Rattle.tsconfig_resolver.specs.Find.{meant, entry}
use Rattle.tsconfig_resolver.specs.Line.{rest}
use Rattle.tsconfig_resolver.specs.Load.{load_by, load}
use Rattle.tsconfig_resolver.specs.Project.{refer_to, references_of, load_record, load_found, load_path, folders, owned, owner_at, owner_from, owner_of}

pub proved_cases : map (λ r. answer r.asked) table ≡ map (λ r. map bytes r.told) table
unfolding next finish judge verdict width_of operands decode_at decode find is_dir config_path locate only first_of strings single listed targets_of keys_of mapping option_of record_path_of flag_of text_of slot tally in_range opened fresh follows in_order too_many own_rule good_string path_of keys_of_in_rules clash given_before fault_of fault covers on_first split piece_of starts leads_dot names heads components trim_start lead_of inside_node_modules joined ending trim_end all_but_last trimmed without_last parent_of last_of last_piece if_name file_name after_dot extension_of extension after_stars after_star token_at tokens eat after after_dirs match_tokens glob_of joint push_of step_by step_of walk_of normalize_with matches_at part_at key_part same_list left_of is_some same_path under left_pieces strip_prefix normal record_path lead_rule asked_path after_config_dir two_stars pattern_text pattern_rule asked build candidates_of tries_of owner_reply owner book tsconfig_build tsconfig_owner tsconfig_candidates tsconfig_tries fit listed_in_replies output string_rule prefix_of same_text some_of each_of find_from find_last_from without_slashes in_config_dir substituted adjusted built_value built allowed outside ends implied matched included excluded named_file claims is_empty_list no_references solution_style claims_ownership solution merge mapped laid row rows items key_rows mapping_in_listing decimal if_named flag_row text_row flags texts listing equal_key prefix_len longer best_key filled_at filled from_best from_equal from_paths aliases from_base_url or_if_none candidates longer_text root_above in_roots from_root root_tries tries placed placed_value own_base parse said parsed meant entry rest load_by load refer_to references_of load_record load_found load_path folders owned owner_at owner_from owner_of
proved_cases = refl
