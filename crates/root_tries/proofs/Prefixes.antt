-- What is left of a path after a directory is no longer than the path. Assumes nothing.
use Rattle.std.proofs.Common.{◌≡◌, ℕ, ◌≤◌, List, [], ◌∷◌, length, Option, Some, None, IfSome, option_map, subst, length-append, length-drop, arith}
use Rattle.text.specs.Bytes.{Text, slash}
use Rattle.text.specs.Text.{same_text}
use Rattle.text.proofs.Picks.{by_test}
use Rattle.components.specs.Components.{split, piece_of, is_skip, names, lead_of, rest_of, trim_start}
use Rattle.components.proofs.Components.{lead_le}
use Rattle.ends.specs.Ends.{joined, trim_end, trimmed}
use Rattle.ends.proofs.Ends.{joined_split, ends_le, trim_le}
use Rattle.path.specs.Path.{left_pieces, strip_prefix}

tail_le : (p : Text) (ps : List Text) → length (joined ps) ≤ length (joined (p ∷ ps))
unfolding joined
tail_le p [] = omega arith
tail_le p (q ∷ ps) = omega (arith, length-append p (slash ∷ joined (q ∷ ps)))

start_le : (ps : List Text) → length (joined (trim_start ps)) ≤ length (joined ps)
unfolding trim_start
start_le [] = omega arith
start_le (p ∷ ps) = by_test (is_skip (piece_of p)) (λ t. rw t (omega (arith, start_le ps, tail_le p ps))) (λ f. rw f (omega arith))

left_le : (n : ℕ) (ps cs : List Text) → length (joined ps) ≤ n → IfSome (left_pieces ps cs) (λ us. length (joined us) ≤ n)
unfolding left_pieces
left_le n ps [] h = h
left_le n [] (c ∷ cs) h = tt
left_le n (p ∷ ps) (c ∷ cs) h =
    let k : length (joined ps) ≤ n = omega (arith, tail_le p ps) in
    by_test (is_skip (piece_of p)) (λ t. rw t (left_le n ps (c ∷ cs) k)) (λ f. rw f (by_test (same_text p c) (λ t. rw t (left_le n ps cs k)) (λ g. rw g tt)))

trimmed_le : (p : Text) → length (trimmed p) ≤ length p
unfolding trimmed
trimmed_le p = omega (arith, length-append (lead_of p) (joined (trim_end (split (rest_of p)))), ends_le (rest_of p), length-drop (length (lead_of p)) p, lead_le p)

-- the texts of what is left
text_le : (n : ℕ) (o : Option (List Text)) → IfSome o (λ us. length (joined us) ≤ n) → IfSome (option_map (λ us. joined (trim_start (trim_end us))) o) (λ t. length t ≤ n)
text_le n None h = tt
text_le n (Some us) h = omega (arith, h, start_le (trim_end us), trim_le us)

strip_short : (p d : Text) → IfSome (strip_prefix p d) (λ t. length t ≤ length p)
unfolding strip_prefix
strip_short p [] = trimmed_le p
strip_short p (x ∷ d) =
    by_test (same_text (lead_of p) (lead_of (x ∷ d)))
    (λ t. rw t (text_le (length p) _ (left_le (length p) (split (rest_of p)) (names (split (rest_of (x ∷ d)))) (rw joined_split (omega (arith, length-drop (length (lead_of p)) p))))))
    (λ f. rw f tt)

pub strip_le : (p d : Text) (t : Text) → strip_prefix p d ≡ Some t → length t ≤ length p
strip_le p d t e = subst (λ (o : Option Text). IfSome o (λ t. length t ≤ length p)) e (strip_short p d)
