-- The numbers of the refusals (document 01, "Questions in order", and document 02, T-02), and what an answer stands for. Assumes nothing.
use Rattle.std.specs.Prelude.{ℕ, Result, Ok, Err}
use Rattle.units.specs.declared.refusal.Refusal.{Refusal}
use Rattle.units.specs.declared.refusal.Refusal.TheVariants as no
use Rattle.units.specs.Outcome.{Outcome, given, refused}

-- "A "no" returns the number"
abbrev pub number_of : Refusal → ℕ
number_of no.TooManyBytes = 1
number_of no.BrokenRecord = 2
number_of no.EndNotLast = 3
number_of no.MisplacedRecord = 4
number_of no.BadFlag = 5
number_of no.MalformedLists = 6
number_of no.OutsideGrid = 7
number_of no.IndexesNotRising = 8
number_of no.SizeOutOfRange = 9
number_of no.CoordinateOverflow = 10
number_of no.ListTooShort = 11
number_of no.TooManyPages = 12
number_of no.PageListTooShort = 13
number_of no.NoSuchNumber = 14
number_of no.TooManyCells = 15

-- the value or the number that an answer stands for
abbrev pub outcome : {A : Type 0} → Result A Refusal → Outcome A
outcome (Ok a) = given a
outcome (Err r) = refused (number_of r)

-- the same of an answer told by its number: any number, of a question or not
abbrev pub by_number : {A : Type 0} → Result A ℕ → Outcome A
by_number (Ok a) = given a
by_number (Err n) = refused n
