-- The answer of a call, 0 or the number of a refusal, and the array that is lent for its numbers. Assumes nothing.
use Rattle.std.specs.Prelude.{◌≡◌, List, ℕ}
use Rattle.units.specs.Outcome.{Outcome, given, refused}
use Rattle.planner_rules.specs.declared.pages.Page.{Page}
use Rattle.planner_rules.specs.declared.pages.Plan.{Plan}
use Rattle.yuzhbani_answers.specs.Numbers.{plan_numbers, page_numbers, plan_from}

-- 0 where a value was given, else "the number" of the "no"
abbrev pub answer_to : {A : Type 0} → Outcome A → ℕ
answer_to (given a) = 0
answer_to (refused n) = n

-- an array that is lent for numbers: these, or, where the call is refused, what stood there
abbrev pub put_in : Outcome (List ℕ) → List ℕ → List ℕ
put_in (given ns) old = ns
put_in (refused n) old = old

-- ---- of a page call

-- an array that is lent for the numbers of a page: these, or, where the call is refused, what stood there
abbrev pub page_in : Outcome Page → List ℕ → List ℕ
page_in (given p) old = page_numbers p
page_in (refused n) old = old

-- the answer r of a page call, and its array of numbers, which held `old`
pub record PageHanded (o : Outcome Page) (r : ℕ) (old numbers : List ℕ) : Type 0 where
  pub answer : r ≡ answer_to o
  pub numbers_are : numbers ≡ page_in o old

-- ---- of a plan call

-- the sixty numbers of a plan, or those that stood there
abbrev pub numbers_of : Outcome Plan → List ℕ → List ℕ
numbers_of (given p) old = plan_numbers p
numbers_of (refused n) old = old

-- a plan is had back from its numbers
abbrev pub HadBack : Outcome Plan → Type 0
HadBack (given p) = plan_from (plan_numbers p) ≡ p
HadBack (refused n) = Unit {0}
