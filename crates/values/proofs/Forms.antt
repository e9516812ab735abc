-- The built forms: laws of the functions that write them. Assumes nothing.
use Rattle.std.proofs.Common.{◌≡◌, ℕ, ◌+◌, ◌*◌, ◌^◌, ◌<◌, ◌≤◌, [], ◌∷◌, true, false, eqb, not, length, drop, Option, Some, None, refl, sym, ap, subst, ◌∙◌, arith, length-drop}
use lib.Seq.{drop-drop}
use Rattle.std.specs.List.{position_from}
use Rattle.text.specs.Bytes.{Text, slash}
use Rattle.text.specs.Text.{prefix_of}
use Rattle.text.proofs.Picks.{by_test}
use Rattle.names.specs.Names.{config_dir}
use Rattle.emit.specs.Emit.{Room}
use Rattle.emit.specs.Output.{Puts, Becomes}
use Rattle.emit.specs.declared.Output.{Output}
use Rattle.emit.proofs.Outputs.{puts_first, room_within}
use Rattle.components.specs.Components.{starts}
use Rattle.join.specs.Join.{join_of, normalize_with}
use Rattle.join.proofs.Buffer.{join_size}
use Rattle.tsconfig.specs.Parsed.{placed, own_base}
use Rattle.tsconfig.specs.Build.{without_slashes, in_config_dir, substituted}
use Rattle.values.proofs.Lengths.{without_slashes_length}

-- The slashes in front

-- what is left from the first byte that is no slash on
abbrev pub from_place : Text → Option ℕ → Text
from_place s (Some i) = drop i s
from_place s None = []

pub first_kept : (i : ℕ) (s t : Text) → t ≡ drop i s → without_slashes t ≡ from_place s (position_from (λ (x : ℕ). not (eqb x slash)) i t)
unfolding without_slashes
first_kept i s [] e = refl
first_kept i s (x ∷ t) e =
    by_test (eqb x slash)
    (λ y. rw y (first_kept (i + 1) s t (ap (drop 1) e ∙ (drop-drop 1 i s))))
    (λ n. rw n e)

relative : (s : Text) → starts slash (without_slashes s) ≡ false
unfolding without_slashes starts
relative [] = refl
relative (x ∷ s) = by_test (eqb x slash) (λ t. rw t (relative s)) (λ f. rw f f)

-- What follows `${configDir}`, joined

module _ (dir s tail rest : Text) (p : tail ≡ drop 12 s) (q : rest ≡ without_slashes tail) (o : Output) (at : o.at ≡ 0) (h : length dir + 1 + length s ≤ length o.bytes.now) where
  rest_fits : length (join_of dir rest) ≤ length o.bytes.now
  rest_fits = omega (arith, h, join_size dir rest, ap length q, without_slashes_length tail, ap length p, length-drop 12 s)

  pub config_room : length o.bytes.now * 1 < 2 ^ 63 → Room o.at (join_of dir rest)
  config_room b = room_within o.bytes.now o.at (join_of dir rest) (omega (arith, at, rest_fits)) b

  config_join : join_of dir rest ≡ in_config_dir dir s
  unfolding join_of in_config_dir
  config_join = rw (q, relative tail, p)

  pub config_becomes : (u : Output) → Puts (join_of dir rest) o u → Becomes (in_config_dir dir s) o u
  config_becomes u e = subst (λ (t : Text). Becomes t o u) config_join (puts_first (join_of dir rest) o u at rest_fits e)

-- What is read from a record's own directory

led : (dir t : Text) → prefix_of config_dir t ≡ true → substituted dir t ≡ in_config_dir dir t
unfolding substituted
led dir t e = rw e

unled : (dir t : Text) → prefix_of config_dir t ≡ false → substituted dir t ≡ t
unfolding substituted
unled dir t e = rw e

module _ (dir own s : Text) where
  pub build_led : prefix_of config_dir s ≡ true → in_config_dir dir s ≡ substituted dir (placed own s)
  unfolding placed
  build_led t = rw t (sym (led dir s t))

  module _ (f : prefix_of config_dir s ≡ false) where
    build_read : substituted dir (placed own s) ≡ substituted dir (normalize_with own s)
    unfolding placed
    build_read = rw f

    pub build_kept : prefix_of config_dir (normalize_with own s) ≡ false → normalize_with own s ≡ substituted dir (placed own s)
    build_kept g = sym (build_read ∙ unled dir (normalize_with own s) g)

    read_is : placed own s ≡ normalize_with own s
    unfolding placed
    read_is = rw f

    pub build_again : prefix_of config_dir (normalize_with own s) ≡ true → in_config_dir dir (placed own s) ≡ substituted dir (placed own s)
    build_again g = sym (led dir (placed own s) (rw read_is g))

-- The base that a record sets: its baseUrl, else its directory

module _ (dir own : Text) (o : Option Text) where
  pub base_some : (t : Text) → o ≡ Some t → substituted dir (placed own t) ≡ substituted dir (own_base own o)
  unfolding own_base
  base_some t e = rw e

  pub base_none : o ≡ None → substituted dir own ≡ substituted dir (own_base own o)
  unfolding own_base
  base_none e = rw e
