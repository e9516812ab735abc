-- The rest of a path in the other root dirs of a record, one after the other, and how much that is. Assumes nothing.
use Rattle.std.proofs.Common.{◌≡◌, ℕ, ◌*◌, ◌^◌, ◌≤◌, ◌<◌, Bool, true, false, List, [], ◌∷◌, map, length, Some, length-append, arith}
use Rattle.text.specs.Bytes.{Text}
use Rattle.text.specs.Text.{each_of}
use Rattle.text.proofs.Picks.{by_test}
use Rattle.emit.specs.declared.Output.{Output}
use Rattle.emit.proofs.Outputs.{Left}
use Rattle.path.specs.Path.{same_path}
use Rattle.join.specs.Join.{normalize_with}
use Rattle.book.specs.Command.{root_dir}
use Rattle.book.specs.Record.{strings}
use Rattle.book.specs.Index.{record_at}
use Rattle.book.specs.Sound.{nil, cons}
use Rattle.record.specs.Read.{is_short}
use Rattle.record.proofs.Short.{strings_short}
use Rattle.tsconfig.specs.Laid.{laid}
use Rattle.tsconfig.specs.Mapping.{in_roots}
use Rattle.values.proofs.Lengths.{normalize_length, record_length, strings_length}
use Rattle.targets.specs.Targets.{EachShort}
use Rattle.roots.specs.Roots.{built_place, roots_of}
use Rattle.roots.proofs.Roots.{place_length}

module _ (root rest : Text) where
  -- the rest in the root dirs
  abbrev others : List Text → List Text
  others rs = in_roots root (Some rest) rs

  pub others_end : (rs : List Text) → rs ≡ [] → others rs ≡ []
  unfolding in_roots
  others_end rs e = rw e

  -- r is the first of those that are left, read as v
  module _ (rs us : List Text) (r v : Text) (n : rs ≡ r ∷ us) (e : v ≡ r) (m : Bool) (q : m ≡ same_path v root) where
    pub others_same : m ≡ true → others rs ≡ others us
    unfolding in_roots
    others_same y = rw n (rw (← e, ← q, y))

    pub others_next : m ≡ false → others rs ≡ normalize_with v rest ∷ others us
    unfolding in_roots
    others_next y = rw n (rw (← e, ← q, y))

  -- they are at most as many as the root dirs, and none of them long
  module _ (dir own : Text) (d : length dir ≤ 512) (o : length own ≤ 512) (l : length rest ≤ 1100) where
    record Within (ss : List Text) : Type 0 where
      count : length (others (map (built_place dir own) ss)) ≤ length ss
      size : length (laid (others (map (built_place dir own) ss))) ≤ 3000 * length ss

    within : (ss : List Text) → EachShort ss → Within ss
    unfolding in_roots laid
    within [] nil = record { count = omega arith; size = omega arith }
    within (s ∷ ss) (cons g h) =
        let w = within ss h in
        let t : Text = built_place dir own s in
        let v : Text = normalize_with t rest in
        by_test (same_path t root)
        (λ z. record { count = rw z (omega (arith, w.count)); size = rw z (omega (arith, w.size)) })
        (λ z. record {
          count = rw z (omega (arith, w.count));
          size = rw z (omega (arith, w.size, length-append v (laid (others (map (built_place dir own) ss))), normalize_length t rest, place_length dir own s, g, d, o, l));
        })

    module _ (s text : Text) (at : ℕ) (h : each_of (is_short 512 text) (record_at s at) ≡ true) (k : length s ≤ 32768) where
      bounded : Within (strings text root_dir (record_at s at))
      bounded = within (strings text root_dir (record_at s at)) (strings_short 512 text root_dir (record_at s at) h)

      pub others_few : length (others (roots_of s text dir own at)) ≤ 32768
      others_few = omega (arith, bounded.count, strings_length text root_dir (record_at s at), record_length s at, k)

      -- so that the place to write at can be counted
      pub others_near : (o u : Output) (left : Text) → Left (laid (others (roots_of s text dir own at))) o left u → o.at ≤ 100000 → u.at < 2 ^ 62
      others_near o u left p n = omega (arith, p.owes.next, bounded.size, strings_length text root_dir (record_at s at), record_length s at, k, n)
