-- What a line asks, and what is answered to a question.
use Rattle.std.specs.Prelude.{◌≡◌, length, drop, Option, Some, None, Result}
use Rattle.text.specs.Bytes.{Text}
use Rattle.text.specs.Text.{before_byte, after_byte}
use Rattle.asked.specs.Asked.{tab, kind_of}
use Rattle.asked.specs.declared.Kind.TheVariants as kind
use Rattle.book.specs.declared.Refusal.{Refusal}
use Rattle.replies.specs.declared.Given.{Given}
use Rattle.replies.specs.Replies.{returned, numbers_by, AnsweredAs}
use Rattle.questions.specs.Questions.{tsconfig_build, tsconfig_owner, tsconfig_candidates, tsconfig_tries}
use Rattle.asking.specs.declared.Question.{Question}
use Rattle.asking.specs.declared.Question.TheVariants.{Build, Owner, Candidates, Tries}

-- the fields of a line, after its letter and blank
abbrev pub fields_of : Text → Text
fields_of line = drop 2 line

-- a line asks by its letter, and is about its fields; another line asks nothing
abbrev pub Asks : Text → Option Question → Type 0
Asks line None = kind_of line ≡ None
Asks line (Some (Build path)) = (kind_of line ≡ Some kind.Build) × (path.now ≡ fields_of line)
Asks line (Some (Owner path)) = (kind_of line ≡ Some kind.Owner) × (path.now ≡ fields_of line)
Asks line (Some (Candidates path specifier)) =
    (kind_of line ≡ Some kind.Candidates) × ((path.now ≡ before_byte tab (fields_of line)) × (specifier.now ≡ after_byte tab (fields_of line)))
Asks line (Some (Tries path directory specifier)) =
    (kind_of line ≡ Some kind.Tries) × ((path.now ≡ before_byte tab (fields_of line))
    × ((directory.now ≡ before_byte tab (after_byte tab (fields_of line))) × (specifier.now ≡ after_byte tab (after_byte tab (fields_of line)))))

-- what is answered and the lent output, before and after, are what comes of the question; an owner lends none
abbrev pub Answers : Question → Text → Text → Result Given Refusal → Text → Text → Type 0
Answers (Build path) commands text r old new = AnsweredAs (tsconfig_build commands text path.now (length old)) r old new
Answers (Owner path) commands text r old new = (numbers_by r ≡ returned (tsconfig_owner commands text path.now)) × (new ≡ old)
Answers (Candidates path specifier) commands text r old new = AnsweredAs (tsconfig_candidates commands text path.now specifier.now (length old)) r old new
Answers (Tries path directory specifier) commands text r old new = AnsweredAs (tsconfig_tries commands text path.now directory.now specifier.now (length old)) r old new
