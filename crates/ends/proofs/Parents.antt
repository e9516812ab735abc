-- Laws of the path without its last component. Assumes nothing.
use mathlib.Core.Path.{◌≡◌, refl, sym, ap, ◌∙◌}
use mathlib.Core.List.{List, [], ◌∷◌, ◌++◌, append-nil}
use mathlib.Core.Bool.{Bool, true, false}
use Prim.Native.Nat.{ℕ, suc, ◌+◌, ◌-◌, ◌≤◌, ◌<◌}
use native.Mathlib.Omega.{arith}
use lib.ListN.{length, take, drop, length-append, length-take, length-drop}
use lib.Seq.{take-add, take-take, take-length, length-take-le}
use Rattle.text.specs.Bytes.{Text, slash}
use Rattle.text.specs.Text.{find_last}
use Rattle.std.specs.Prelude.{Option, Some, None}
use Rattle.components.specs.Components.{split, leads_dot, lead_of}
use Rattle.ends.specs.Ends.{joined, trim_end, all_but_last, body, without_last, parent_of}
use Rattle.emit.specs.Emit.{Holds}
use Rattle.text.proofs.Picks.{by_test}
use Rattle.text.proofs.Parts.{from_some}
use Rattle.components.proofs.Components.{lead_front, lead_le}
use Rattle.ends.proofs.Ends.{ends, ends_le, trimmed_front, ends_split, trim_none, trim_le, but_last, last_one, last_within, last_more}

-- the path without its last component

without_none : (s : Text) → length (without_last s []) ≤ length s
unfolding without_last
without_none s = by_test (leads_dot s) (λ t. rw t (omega arith)) (λ f. rw f (omega arith))

without_cons : (s p : Text) (ps : List Text) → without_last s (p ∷ ps) ≡ lead_of s ++ joined (trim_end (all_but_last (p ∷ ps)))
unfolding without_last
without_cons s p ps = refl

without_some : (s : Text) (ps : List Text) → 0 < length (joined ps) → without_last s ps ≡ lead_of s ++ joined (trim_end (all_but_last ps))
unfolding joined
without_some s [] h = absurd (omega arith)
without_some s (p ∷ ps) h = without_cons s p ps

without_one : (s t : Text) → lead_of s ++ joined (trim_end (all_but_last (t ∷ []))) ≡ lead_of s
unfolding joined trim_end all_but_last
without_one s t = append-nil (lead_of s)

-- a is the lead's length, t the text from the lead to the end of the last component, as the code cuts it
module _ (s : Text) (a : ℕ) (m : a ≡ length (lead_of s)) (t : Text) (cut : t ≡ ends (take (length s - a) (drop a s))) where
  c : t ≡ ends (drop a s)
  c = cut ∙ ap ends (from_some s a)

  in_body : trim_end (split (drop a s)) ≡ body s
  in_body = ap (λ (k : ℕ). trim_end (split (drop k s))) m

  front : take (length t) (drop a s) ≡ t
  front = ap (λ (x : Text). take (length x) (drop a s)) c ∙ trimmed_front (drop a s) ∙ sym c

  pub body_within : a + length t ≤ length s
  body_within = omega (arith, ap length front, length-take (length t) (drop a s), length-drop a s, lead_le s)

  module _ (x : length t ≡ 0) (k : Bool) (d : k ≡ leads_dot s) where
    no_body : body s ≡ []
    no_body = sym in_body ∙ trim_none (split (drop a s)) (ap length (sym c) ∙ x)

    pub parent_dot : k ≡ true → Holds 0 s (parent_of s)
    unfolding parent_of without_last
    parent_dot t = rw (no_body, ← d, t) (record { size = refl; bytes = refl })

    pub parent_self : k ≡ false → Holds (length s) s (parent_of s)
    unfolding parent_of without_last
    parent_self t = rw (no_body, ← d, t) (record { size = refl; bytes = take-length s })

  -- r is where its last slash stands
  module _ (x : length t ≡ 0 → ⊥) (r : Option ℕ) (f : r ≡ find_last slash t) where
    some_body : 0 < length (ends (drop a s))
    some_body = omega (arith, x, ap length c)

    split_end : split t ≡ body s
    split_end = ap split c ∙ ends_split (drop a s) some_body ∙ in_body

    parent_some : parent_of s ≡ lead_of s ++ joined (trim_end (all_but_last (split t)))
    unfolding parent_of
    parent_some = rw split_end (without_some s (body s) (rw in_body at some_body))

    pub parent_lead : r ≡ None → Holds a s (parent_of s)
    parent_lead z =
        let w : parent_of s ≡ lead_of s = parent_some ∙ ap (λ (l : List Text). lead_of s ++ joined (trim_end (all_but_last l))) (last_one t (sym z ∙ f)) ∙ without_one s t in
        rw w (record { size = m; bytes = rw m (lead_front s) })

    module _ (i : ℕ) (g : r ≡ Some i) where
      found : Some i ≡ find_last slash t
      found = sym g ∙ f

      pub slash_within : i < length t
      slash_within = last_within slash t i found

      pub parent_more : (u : Text) → u ≡ ends (take i t) → Holds (a + length u) s (parent_of s)
      parent_more u e =
          let l = slash_within in
          let v = take i t in
          let w : parent_of s ≡ lead_of s ++ u =
          parent_some ∙ ap (λ (l : List Text). lead_of s ++ joined (trim_end (all_but_last l))) (last_more t i found)
          ∙ ap (λ (l : List Text). lead_of s ++ joined (trim_end l)) (but_last (drop (i + 1) t) (split v))
          ∙ ap (λ (l : Text). lead_of s ++ l) (sym e) in
          let n : length u ≤ length v = omega (arith, ap length e, ends_le v) in
          let k : length v ≡ i = length-take-le i t (omega (arith, l)) in
          let b : take (length u) (drop a s) ≡ u =
          sym (take-take (length u) (length t) (drop a s) (omega (arith, n, k, l))) ∙ ap (take (length u)) front
          ∙ sym (take-take (length u) i t (omega (arith, n, k)))
          ∙ ap (λ (l : Text). take (length l) v) e ∙ trimmed_front v ∙ sym e in
          rw w (record {
            size = omega (arith, length-append (lead_of s) u, m);
            bytes = rw (take-add a (length u) s, b, m, lead_front s);
          })

-- it is no longer than the path

joined_le : (p : Text) (ps : List Text) → length (joined (p ∷ ps)) ≤ length p + suc (length (joined ps))
unfolding joined
joined_le p [] = omega arith
joined_le p (q ∷ ps) = omega (arith, length-append p (slash ∷ joined (q ∷ ps)))

but_last_le : (ps : List Text) → length (joined (all_but_last ps)) ≤ length (joined ps)
unfolding joined all_but_last
but_last_le [] = omega arith
but_last_le (p ∷ []) = omega arith
but_last_le (p ∷ q ∷ ps) =
    omega (arith, joined_le p (all_but_last (q ∷ ps)), length-append p (slash ∷ joined (q ∷ ps)), but_last_le (q ∷ ps))

pub parent_le : (s : Text) → length (parent_of s) ≤ length s
unfolding parent_of
parent_le s = go (body s) (omega (arith, ends_le (drop (length (lead_of s)) s), length-drop (length (lead_of s)) s, lead_le s))
  where
    go : (ps : List Text) → length (lead_of s) + length (joined ps) ≤ length s → length (without_last s ps) ≤ length s
    go [] h = without_none s
    go (p ∷ ps) h =
        let qs = all_but_last (p ∷ ps) in
        rw (without_cons s p ps) (omega (arith, length-append (lead_of s) (joined (trim_end qs)), trim_le qs, but_last_le (p ∷ ps)))
