-- There is one proof at most of what an accepted book's tables say.
use Rattle.std.specs.Prelude.{Bool, List, [], ◌∷◌, refl}
use Rattle.std.specs.Prelude.{Option}
use Rattle.std.specs.Coded.{Coded, Coded-set, code_by, coded×, coded_ℕ, coded_bool, coded_list, coded_option, le_prop}
use mathlib.Core.Path.{ap₂}
use Rattle.text.specs.Bytes.{Text}
use Rattle.book.specs.Record.{Key}
use Rattle.book.specs.Sound.{All, nil, cons, Good, Sound}
use Rattle.book.specs.declared.Cmd.{Cmd}
use Rattle.book.specs.declared.IndexRow.{IndexRow}
use Rattle.tsconfig.specs.Config.{Field, files, include, exclude, base_url, paths, root_dirs, out_dir, declaration_dir, flag, text}
use Rattle.tsconfig.specs.Parsed.{Value, Parsed}
use Rattle.rows.specs.Records.{Records}

abbrev text_code : Coded Text
text_code = coded_list coded_ℕ

abbrev key_code : Coded Key
key_code = code_by (Text × List Text) (coded× text_code (coded_list text_code)) (λ k. (k.key, k.targets)) (λ p. record { key = p.0; targets = p.1 }) (λ _. refl)

-- what a record says of a field is compared by its code
abbrev value_code : (f : Field) → Coded (Value f)
value_code files = coded_list text_code
value_code include = coded_list text_code
value_code exclude = coded_list text_code
value_code base_url = text_code
value_code paths = coded_list key_code
value_code root_dirs = coded_list text_code
value_code out_dir = text_code
value_code declaration_dir = text_code
value_code (flag id) = coded_bool
value_code (text id) = text_code

said_set : (f : Field) → IsSet (Option (Value f))
said_set f = Coded-set (coded_option (value_code f))

text_set : IsSet Text
text_set = Coded-set text_code

texts_set : IsSet (List Text)
texts_set = Coded-set (coded_list text_code)

pub Parsed-set : IsSet Parsed
Parsed-set = Prim.hlevel (said_set, text_set, texts_set)

All-prop : {A : Type 0} (P : A → Type 0) → ((x : A) → IsProp (P x)) → (l : List A) → IsProp (All P l)
All-prop P h [] nil nil = refl
All-prop P h (x ∷ l) (cons p ps) (cons q qs) = ap₂ cons (h x p q) (All-prop P h l ps qs)

bool_set : IsSet Bool
bool_set = Coded-set coded_bool

Good-prop : (t : Text) (c : Cmd) → IsProp (Good t c)
Good-prop t c = Prim.hlevel bool_set

Sound-prop : (t : Text) (r : List Cmd) → IsProp (Sound t r)
Sound-prop t r = Prim.hlevel (All-prop (Good t) (Good-prop t) r, le_prop)

pub Records-prop : (commands t : Text) (rows : List IndexRow) → IsProp (Records commands t rows)
Records-prop commands t rows = Prim.hlevel (le_prop, Parsed-set, Sound-prop t)
