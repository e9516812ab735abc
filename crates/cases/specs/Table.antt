-- Document 01's fourteen proved cases and its worked example, as one table: what is asked, and what is answered, as texts.
use Rattle.std.specs.Prelude.{ℕ, zero, suc, ◌+◌, ◌*◌, ◌/◌, ◌%◌, List, [], ◌∷◌, ◌++◌, map, Bool, cond, ltb, eqb, take, drop}
use Prim.Native.String.{String}
use Rattle.std.specs.Prelude.{Option, Some, None}
use Rattle.text.specs.Bytes.{Text, bytes}
use Rattle.join.specs.Join.{normalize_with}
use Rattle.path.specs.Path.{under}
use Rattle.ends.specs.Ends.{extension}
use Rattle.keys.specs.Keys.{key_part, is_match}
use Rattle.book.specs.Answer.{Answer, refused, given}
use Rattle.book.specs.Record.{Key}
use Rattle.verdicts.proofs.Written.{Line, commands_of, text_of_lem, at, extends, include, paths, key}
use Rattle.tsconfig.specs.Build.{substituted}
use Rattle.tsconfig.specs.Mapping.{best_key}
use Rattle.tsconfig.specs.Parsed.{Parsed}
use Rattle.tsconfig_resolver.specs.Line.{line}
use Rattle.tsconfig_resolver.specs.Find.{path_at, seen}
use Rattle.replies.specs.Replies.{Outcome, Reply}
use Rattle.questions.specs.Questions.{book}
use Rattle.cases.specs.Asked.{Question, B, O, C, T, outcome}

pub data Case : Type 0 where
  -- the base with the subpath
  path : String → String → Case
  -- the text, built in the directory
  built_in : String → String → Case
  -- the path lies under the directory
  lies : String → String → Case
  -- the wildcard key chosen for the specifier, and what its star stood for
  chosen : List String → String → Case
  -- the key matches the specifier
  matching : String → String → Case
  -- the path's extension
  extension_of : String → Case
  -- the line of the first record of a book, by the records' paths
  line_of : List Line → Case
  -- the lines that the program prints for the questions about a book
  prints : List Line → List Question → Case

-- What the program prints: "`built`: record, merges", and the lines below it; "`owner`: found, solution. Otherwise `owner none`";
-- `candidates` or `tries`, "the count and the paths"; "`refused`, number and place".

-- a number in decimal, of at most k digits
abbrev pub digits : ℕ → ℕ → Text
digits zero n = []
digits (suc k) n = cond (ltb n 10) ((48 + n) ∷ []) (digits k (n / 10) ++ (48 + n % 10) ∷ [])

abbrev pub heading : String → ℕ → Text
heading name n = bytes name ++ (32 ∷ digits 6 n)

abbrev pub two : String → ℕ → ℕ → Text
two name a b = heading name a ++ (32 ∷ (digits 6 b ++ 10 ∷ []))

-- the texts of candidates or tries, k of them, a line each
abbrev pub listed : ℕ → Text → Text
listed zero s = []
listed (suc k) [] = []
listed (suc k) (x ∷ []) = []
listed (suc k) (x ∷ y ∷ s) = take (x + y * 256) s ++ (10 ∷ listed k (drop (x + y * 256) s))

abbrev pub printed : Question → Reply → Text
printed (B p) r = two "built" r.first r.second ++ r.bytes
printed (O p) r = cond (eqb r.first 65535) (bytes "owner none\n") (two "owner" r.first r.second)
printed (C p s) r = heading "candidates" r.first ++ (10 ∷ listed r.first r.bytes)
printed (T p d s) r = heading "tries" r.first ++ (10 ∷ listed r.first r.bytes)

abbrev pub printed_or : Question → Outcome → Text
printed_or q (refused n p) = two "refused" n p
printed_or q (given r) = printed q r

abbrev pub printed_all : List Line → List Question → Text
printed_all ls [] = []
printed_all ls (q ∷ qs) = printed_or q (outcome (commands_of ls) (text_of_lem ls) q) ++ printed_all ls qs

-- what an answer is written as
abbrev pub of_bool : Bool → List Text
of_bool b = cond b (bytes "yes") (bytes "no") ∷ []

abbrev pub of_option : Option Text → List Text
of_option None = []
of_option (Some s) = s ∷ []

abbrev pub of_key : Text → Option Key → List Text
of_key s None = []
of_key s (Some k) = k.key ∷ of_option (key_part k.key s)

abbrev pub named : String → Key
named k = record { key = bytes k; targets = [] }

abbrev pub of_line : Answer (List Parsed) → List Text
of_line (refused n p) = []
of_line (given rs) = map (path_at rs) (line (seen rs) 0)

abbrev pub answer : Case → List Text
answer (path b s) = normalize_with (bytes b) (bytes s) ∷ []
answer (built_in d s) = substituted (bytes d) (bytes s) ∷ []
answer (lies p d) = of_bool (under (bytes p) (bytes d))
answer (chosen ks s) = of_key (bytes s) (best_key (bytes s) None (map named ks))
answer (matching k s) = of_bool (is_match (key_part (bytes k) (bytes s)))
answer (extension_of p) = of_option (extension (bytes p))
answer (line_of ls) = of_line (book (commands_of ls) (text_of_lem ls))
answer (prints ls qs) = printed_all ls qs ∷ []

-- A extends B, C, with no baseUrl or paths
abbrev pub abc : List Line
abc = at "/a/A.json" (extends ("../b/B" ∷ "../c/C" ∷ [])) ++ (at "/b/B.json" [] ++ at "/c/C.json" [])

-- A, B, A
abbrev pub aba : List Line
aba = at "/a/A.json" (extends ("./B" ∷ [])) ++ at "/a/B.json" (extends ("./A" ∷ []))

-- "record 0 `/t/base.json`, key `@f/*`, target `filt/*`; record 1 `/t/st/tsconfig.json`, extends `../base.json`, include `src`"
abbrev pub stations : List Line
stations =
    at "/t/base.json" (paths (key "@f/*" ("filt/*" ∷ [])))
    ++ at "/t/st/tsconfig.json" (extends ("../base.json" ∷ []) ++ include ("src" ∷ []))

pub record Row : Type 0 where
  pub asked : Case
  pub told : List String

infix 5 ◌gets◌
abbrev pub ◌gets◌ : Case → List String → Row
c gets t = record { asked = c; told = t }

abbrev pub table : List Row
table =
    -- 1 to 14
    (path "/a/b" "../c" gets "/a/c" ∷ [])
    ∷ (path "/a" "" gets "" ∷ [])
    ∷ (path "/" "../z" gets "/z" ∷ [])
    ∷ (path "/a" "/u/../v" gets "/u/../v" ∷ [])
    ∷ (built_in "/p" "${configDir}" gets "/p/" ∷ [])
    ∷ (lies "/ab" "/a" gets "no" ∷ [])
    ∷ (chosen ("*" ∷ "a*" ∷ []) "abc" gets "a*" ∷ "bc" ∷ [])
    ∷ (chosen ("a*" ∷ "a*c" ∷ []) "abc" gets "a*" ∷ "bc" ∷ [])
    ∷ (matching "ab*bc" "abc" gets "no" ∷ [])
    ∷ (prints (at "/q/tsconfig.json" (include ("" ∷ []))) (O "/q/z.ts" ∷ []) gets "owner 0 0\n" ∷ [])
    ∷ (extension_of ".ts" gets [])
    ∷ (line_of abc gets "/a/A.json" ∷ "/c/C.json" ∷ "/b/B.json" ∷ [])
    ∷ (prints abc (B "/a/A.json" ∷ []) gets "built 0 2\nbase=/b\n" ∷ [])
    ∷ (prints aba (B "/a/A.json" ∷ []) gets "refused 9 0\n" ∷ [])
    -- the worked example
    ∷ (prints stations (B "/t/st/tsconfig.json" ∷ O "/t/st/src/a.ts" ∷ C "/t/st/tsconfig.json" "@f/band" ∷ [])
    gets "built 1 1\ninclude=/t/st/src\nbase=/t\nkey=@f/*\ntarget=/t/filt/*\nowner 1 1\ncandidates 1\n/t/filt/band\n" ∷ [])
    -- no owner
    ∷ (prints stations (O "/t/a.ts" ∷ []) gets "owner none\n" ∷ [])
    ∷ []
