-- What document 01 says of the definitions in words, proved of them.
use mathlib.Core.Path.{◌≡◌, refl, ap, ap₂, ◌∙◌}
use mathlib.Core.List.{List, [], ◌∷◌}
use mathlib.Core.Bool.{true, ◌&&◌}
use Rattle.std.specs.Prelude.{Some}
use Prim.Native.Nat.{ℕ, ◌≤◌, ◌<◌}
use native.Mathlib.Omega.{arith}
use lib.ListN.{length, drop, length-append, length-drop}
use borrow.Author.Tests.{eq-eqb, lt-ltb, le-ltb}
use Rattle.text.specs.Bytes.{Text}
use Rattle.text.specs.Text.{same_text}
use Rattle.components.specs.Components.{split, leads_dot, piece_of, heads, components, names, starts}
use Rattle.path.specs.Path.{left_of, is_some, under, same_path, same_list}
use Rattle.book.specs.Answer.{refused, given}
use Rattle.replies.specs.Replies.{Reply, fit, output}

same_self : (a : Text) → same_text a a ≡ true
unfolding same_text
same_self [] = refl
same_self (x ∷ a) = ap₂ ◌&&◌ (eq-eqb x x refl) (same_self a)

left_self : (as' : List Text) → left_of as' as' ≡ Some []
unfolding left_of
left_self [] = refl
left_self (a ∷ as') = rw (same_self a) (left_self as')

left_nil : (as' : List Text) → left_of as' [] ≡ Some as'
unfolding left_of
left_nil [] = refl
left_nil (a ∷ as') = refl

-- "a path lies under itself"
pub under_self : (p : Text) → under p p ≡ true
unfolding under is_some
under_self p = rw (left_self (components p)) refl

none_of_empty : components [] ≡ []
unfolding components heads starts split names leads_dot piece_of
none_of_empty = refl

-- "every path under the empty one"
pub under_empty : (p : Text) → under p [] ≡ true
unfolding under is_some
under_empty p = ap (λ l. is_some (left_of (components p) l)) none_of_empty ∙ ap is_some (left_nil (components p))

list_self : (as' : List Text) → same_list as' as' ≡ true
unfolding same_list
list_self [] = refl
list_self (a ∷ as') = ap₂ ◌&&◌ (same_self a) (list_self as')

pub path_self : (p : Text) → same_path p p ≡ true
unfolding same_path
path_self p = list_self (components p)

-- An answer fits the room or is refused by 13 at the bytes needed.
pub fits : (room : ℕ) (r : Reply) → length r.bytes ≤ room → fit room r ≡ given r
unfolding fit
fits room r h = rw (le-ltb room (length r.bytes) h) refl

pub too_long : (room : ℕ) (r : Reply) → room < length r.bytes → fit room r ≡ refused 13 (length r.bytes)
unfolding fit
too_long room r h = rw (lt-ltb room (length r.bytes) h) refl

-- Lent output keeps its size.
pub output_size : (r : Reply) (old : Text) → length r.bytes ≤ length old → length (output (given r) old) ≡ length old
unfolding output
output_size r old h = rw (length-append r.bytes (drop (length r.bytes) old)) (rw (length-drop (length r.bytes) old) (omega (arith, h)))
