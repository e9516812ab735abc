-- A book's entries lead to its own records.
-- Assumes nothing.
use mathlib.Core.List.Memᴰ
use mathlib.Core.List.{List, [], ◌∷◌, map, reverse, reverse_aux, Memᴰ}
use mathlib.Core.Logic.{⊎_elim}
use mathlib.Core.Bool.{Bool, true, false, cond, ◌||◌}
use Rattle.std.specs.Prelude.{Option, Some, None, option_map}
use Prim.Native.Nat.{ℕ, suc, ◌<◌}
use native.Mathlib.Omega.{arith}
use lib.Dec.{eqb}
use lib.ListN.{length, length-map}
use Rattle.tsconfig_resolver.specs.Line.{Entry, empty, bare, missing, leads, led, parents}
use Rattle.text.specs.Bytes.{Text, slash, dot}
use Rattle.text.specs.Text.{same_text}
use Rattle.tsconfig.specs.Parsed.{Parsed}
use Rattle.ends.specs.Ends.{parent_of}
use Rattle.join.specs.Join.{normalize_with}
use Rattle.book.specs.Find.{find, config_path, locate}
use Rattle.tsconfig_resolver.specs.Find.{reached, entry, meant, record_at, path_at, paths_of, seen}

abbrev pub Fits : ℕ → Entry → Type 0
Fits n empty = Unit {0}
Fits n bare = Unit {0}
Fits n missing = Unit {0}
Fits n (leads p) = p < n

abbrev AllFit : ℕ → List Entry → Type 0
AllFit n [] = Unit {0}
AllFit n (e ∷ es) = Fits n e × AllFit n es

fit_reverse : (n : ℕ) (es acc : List Entry) → AllFit n es → AllFit n acc → AllFit n (reverse_aux es acc)
fit_reverse n [] acc h k = k
fit_reverse n (e ∷ es) acc h k = fit_reverse n es (e ∷ acc) h.1 (h.0, k)

fit_led : (n : ℕ) (es : List Entry) → AllFit n es → (p : ℕ) → Memᴰ p (led es) → p < n
fit_led n [] h p m = absurd (Memᴰ.not-nil m)
fit_led n (empty ∷ es) h p m = fit_led n es h.1 p m
fit_led n (bare ∷ es) h p m = fit_led n es h.1 p m
fit_led n (missing ∷ es) h p m = fit_led n es h.1 p m
fit_led n (leads q ∷ es) h p m = ⊎_elim (λ e. rw e h.0) (λ k. fit_led n es h.1 p k) (Memᴰ.cases_cons m)

pub find_below : (t : Text) (qs : List Text) → Fits (length qs) (reached (find t qs))
unfolding find
find_below t [] = tt
find_below t (q ∷ qs) = go (same_text t q) (find t qs) (find_below t qs)
  where
    go : (a : Bool) (o : Option ℕ) → Fits (length qs) (reached o) → Fits (suc (length qs)) (reached (cond a (Some 0) (option_map suc o)))
    go true o h = omega arith
    go false (Some p) h = omega arith
    go false None h = tt

-- a record that a path means is one of the list
pub locate_below : (rs : List Parsed) (t : Text) → Fits (length rs) (reached (locate (paths_of rs) t))
unfolding locate
locate_below rs t = rw length-map at (find_below (config_path (paths_of rs) t) (paths_of rs))

entry_fits : (rs : List Parsed) (c : ℕ) (t : Text) → Fits (length rs) (entry rs c t)
unfolding entry meant
entry_fits rs c [] = tt
entry_fits rs c (x ∷ s) = go (eqb x slash || eqb x dot)
  where
    go : (a : Bool) → Fits (length rs) (cond a (reached (meant rs c (x ∷ s))) bare)
    go true = locate_below rs (normalize_with (parent_of (path_at rs c)) (x ∷ s))
    go false = tt

all_fit : (rs : List Parsed) (c : ℕ) (ts : List Text) → AllFit (length rs) (map (entry rs c) ts)
all_fit rs c [] = tt
all_fit rs c (t ∷ ts) = (entry_fits rs c t, all_fit rs c ts)

pub inside : (rs : List Parsed) (c p : ℕ) → Memᴰ p (parents (seen rs) c) → p < length rs
inside rs c p m =
    let es = map (entry rs c) (record_at rs c).extended in
    fit_led (length rs) (reverse es) (fit_reverse (length rs) es [] (all_fit rs c (record_at rs c).extended) tt) p m
