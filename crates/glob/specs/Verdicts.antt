-- What a verdict on a pattern says, how one verdict follows from another, and what stands before a pattern's first star.
use Rattle.std.specs.Prelude.{ℕ, ◌+◌, ◌<◌, ◌≤◌, [], ◌∷◌, Bool, true, false, cond, ◌≡◌, eqb, length, take, drop, get_or}
use Rattle.text.specs.Bytes.{Text, slash, star, question}
use Rattle.glob.specs.Glob.{glob_of, after, after_dirs, no_slash, any_byte}
use Rattle.glob.specs.declared.Verdict.{Verdict}
use Rattle.glob.specs.declared.Verdict.TheVariants.{Yes, No, Stop, Later, Never}
use Rattle.glob.specs.declared.Front.{Front}
use Rattle.glob.specs.declared.Front.TheVariants.{Known, Star, Stars}

-- a verdict is right for P at s
abbrev pub Sound : Verdict → (Text → Bool) → Text → Type 0
Sound Yes P s = P s ≡ true
Sound No P s = P s ≡ false
Sound Stop P s = after no_slash P s ≡ false
Sound Later P s = after_dirs P s ≡ false
Sound Never P s = after any_byte P s ≡ false

-- it is a match
abbrev pub is_yes : Verdict → Bool
is_yes Yes = true
is_yes No = false
is_yes Stop = false
is_yes Later = false
is_yes Never = false

-- after a star: no later place in the component needs a try
abbrev pub is_settled : Verdict → Bool
is_settled Yes = true
is_settled No = false
is_settled Stop = true
is_settled Later = false
is_settled Never = true

-- after `**/`: no later component needs a try
abbrev pub is_decided : Verdict → Bool
is_decided Yes = true
is_decided No = false
is_decided Stop = false
is_decided Later = true
is_decided Never = true

-- the verdict with a byte in front that is no slash
abbrev pub inside_of : Verdict → Verdict
inside_of Yes = Yes
inside_of No = No
inside_of Stop = Stop
inside_of Later = No
inside_of Never = Never

-- the verdict with a slash in front
abbrev pub past_of : Verdict → Verdict
past_of Yes = Yes
past_of No = No
past_of Stop = No
past_of Later = Never
past_of Never = Never

-- the verdict with `**/` in front
abbrev pub dirs_of : Verdict → Verdict
dirs_of Yes = Yes
dirs_of No = No
dirs_of Stop = No
dirs_of Later = Later
dirs_of Never = Later

-- the verdict with the byte x of the path in front
abbrev pub behind_of : ℕ → Verdict → Verdict
behind_of x v = cond (eqb x slash) (past_of v) (inside_of v)

-- the verdict with the bytes w of the path in front
unfoldable pub passed_of : Text → Verdict → Verdict
passed_of [] v = v
passed_of (x ∷ w) v = behind_of x (passed_of w v)

-- the byte c of a pattern, no star, takes the byte x of a path
abbrev pub takes_of : ℕ → ℕ → Bool
takes_of c x = cond (eqb c question) (no_slash x) (eqb x c)

-- p takes the first i bytes of s by its own first i: a verdict on what is left is one on the whole
pub record Ahead (i : ℕ) (p s : Text) : Type 0 where
  pub pattern : i ≤ length p
  pub path : i ≤ length s
  pub whole : (v : Verdict) → Sound v (glob_of (drop i p)) (drop i s) → Sound (passed_of (take i s) v) (glob_of p) s

-- and a star is next
pub record AtStar (i : ℕ) (p s : Text) : Type 0 where
  pub ahead : Ahead i p s
  pub room : i < length p
  pub here : get_or p i 0 ≡ star

-- Before the token at k, which has n bytes, p takes the first k bytes of s: a verdict on what follows is one on the whole.
-- Q says what the token makes of what follows it.
pub record Leads (n k : ℕ) (Q : (Text → Bool) → Text → Bool) (p s : Text) : Type 0 where
  pub room : k + n ≤ length p
  pub path : k ≤ length s
  pub whole : (v : Verdict) → Sound v (Q (glob_of (drop (k + n) p))) (drop k s) → Sound (passed_of (take k s) v) (glob_of p) s

-- what is said of a pattern up to its first star
abbrev pub FrontIs : Front → Text → Text → Type 0
FrontIs (Known v) p s = Sound v (glob_of p) s
FrontIs (Star k) p s = Leads 1 k (after no_slash) p s
FrontIs (Stars k) p s = Leads 3 k after_dirs p s

-- after a star the first j places of s need no try of P
pub record Skips (P : Text → Bool) (s : Text) (j : ℕ) : Type 0 where
  pub room : j ≤ length s
  pub whole : (v : Verdict) → Sound v (after no_slash P) (drop j s) → Sound (inside_of v) (after no_slash P) s
