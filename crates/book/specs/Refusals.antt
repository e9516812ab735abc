-- The refusals by their numbers.
use Rattle.std.specs.Prelude.{ℕ, Option, Some, None, Result, Ok, Err}
use Rattle.book.specs.declared.Fault.{Fault}
use Rattle.book.specs.declared.Fault.TheVariants.{TooLarge, Broken, OutOfOrder, BadString, TooMany, GivenBefore, BadQuestion, NotFound, Circular, RefersToItself, EmptyEntry, BareEntry, NoRoom}
use Rattle.book.specs.declared.Refusal.{Refusal}
use Rattle.book.specs.Answer.{Answer, refused}

-- "Where each refusal is checked": the column of the numbers
abbrev pub number_of : Fault → ℕ
number_of TooLarge = 1
number_of Broken = 2
number_of OutOfOrder = 3
number_of BadString = 4
number_of TooMany = 5
number_of GivenBefore = 6
number_of BadQuestion = 7
number_of NotFound = 8
number_of Circular = 9
number_of RefersToItself = 10
number_of EmptyEntry = 11
number_of BareEntry = 12
number_of NoRoom = 13

-- "A refusal is its number and a place"
abbrev pub refusal : {A : Type 0} → Refusal → Answer A
refusal r = refused (number_of r.fault) r.place

-- what is wrong with a command, as its refusal's number
abbrev pub told : {A : Type 0} → Result A Fault → Option ℕ
told (Ok a) = None
told (Err f) = Some (number_of f)
