-- The lines of document 01's example, computed from the definitions. Assumes nothing.
use Rattle.std.specs.Prelude.{◌≡◌, refl, false, List, [], ◌∷◌, ◌++◌, ℕ, zero, suc, ◌*◌, ◌/◌, ◌^◌, ◌≤◌, ◌<◌}
use Rattle.std.proofs.Common.{◌∙◌, arith, lit<, lit≤, lt-ltb}
use Rattle.std.proofs.Math.Nat.{pow-succ'}
use Rattle.units.specs.Outcome.{given, refused}
use Rattle.planner_rules.specs.declared.pages.Notes.{Notes}
use Rattle.planner_rules.specs.declared.pages.Page.{Page}
use Rattle.planner_rules.specs.declared.pages.PageOrder.TheVariants.{DownThenOver}
use Rattle.planner_rules.specs.declared.pages.AreaPlan.{AreaPlan}
use Rattle.planner_rules.specs.declared.pages.Plan.{Plan}
use Rattle.planner_rules.specs.Areas.{held_plans}
use Rattle.job_report.specs.Lines.{digits_within, decimal, page_line, area_line, head_lines}

-- ---- the digits of a large number

-- a number below a power of ten has no more digits than the power, however many more may be written
fewer : (few most n : ℕ) → few ≤ most → n < 10 ^ suc few → digits_within (suc most) n ≡ digits_within (suc few) n
unfolding digits_within
fewer zero most n h l = rw (lt-ltb n 10 l)
fewer (suc few) zero n h l = absurd (omega arith)
fewer (suc few) (suc most) n h l =
    let power : n < 10 * 10 ^ suc few = rw (pow-succ' 10 (suc few)) at l in
    rw (fewer few most (n / 10) (omega arith) (omega arith))

few_enough : (few n : ℕ) → few ≤ n → n < 10 ^ suc few → decimal n ≡ digits_within (suc few) n
unfolding decimal
few_enough few n = fewer few n n

six_digits : digits_within 6 400000 ≡ 52 ∷ 48 ∷ 48 ∷ 48 ∷ 48 ∷ 48 ∷ []
unfolding digits_within
six_digits = refl

-- ---- the example

-- nothing is noted
abbrev no_notes : Notes
no_notes = record {
  unknown_paper = 0;
  invalid_margins = 0;
  scale_clamped = 0;
  fit_unreachable = 0;
  titles_ignored = 0;
  titles_expanded = 0;
  merge_expansions = 0;
  break_shifts = 0;
  overflowing_runs = 0;
}

-- an area of two runs an axis
abbrev two_by_two : AreaPlan
two_by_two = record { permille = 1000; unreachable = 0; row_runs = 2; column_runs = 2; rows_empty = false; columns_empty = false }

-- the plan "For Letter, range 0,0 to 2,1, three rows and two columns of 400,000"
abbrev example : Plan
example = record { areas = held_plans (two_by_two ∷ []); pages = 4; order = DownThenOver; notes = no_notes }

-- its second page, where the sizes are so many
abbrev second_sized : ℕ → Page
second_sized n = record {
  vertical = 1;
  horizontal = 0;
  rows = record { first = 2; last = 2; size = n; empty_body = false; manual_break = false };
  columns = record { first = 0; last = 0; size = n; empty_body = false; manual_break = false };
}

abbrev second : Page
second = second_sized 400000

-- "plan 1000 4" and "notes 0 0 0 0 0 0 0 0 0"
pub head_told : head_lines (given example) ≡
    (112 ∷ 108 ∷ 97 ∷ 110 ∷ 32 ∷ 49 ∷ 48 ∷ 48 ∷ 48 ∷ 32 ∷ 52 ∷ 10 ∷ [])
    ++ (110 ∷ 111 ∷ 116 ∷ 101 ∷ 115 ∷ 32 ∷ 48 ∷ 32 ∷ 48 ∷ 32 ∷ 48 ∷ 32 ∷ 48 ∷ 32 ∷ 48 ∷ 32 ∷ 48 ∷ 32 ∷ 48 ∷ 32 ∷ 48 ∷ 32 ∷ 48 ∷ 10 ∷ [])
unfolding head_lines
head_told = refl

second_sized_told : (n : ℕ) (digits : List ℕ) → decimal n ≡ digits → page_line 2 (second_sized n) ≡
    112 ∷ 97 ∷ 103 ∷ 101 ∷ 32 ∷ 50 ∷ 32 ∷ 49 ∷ 32 ∷ 48 ∷ 32 ∷ 50 ∷ 32 ∷ 50 ∷ 32 ∷ 48 ∷ 32 ∷ 48
    ∷ 32 ∷ (digits ++ (32 ∷ (digits ++ [])) ++ (10 ∷ []))
unfolding page_line
second_sized_told n digits e = rw e

-- "page 2 1 0 2 2 0 0 400000 400000"
pub second_told : page_line 2 second ≡
    112 ∷ 97 ∷ 103 ∷ 101 ∷ 32 ∷ 50 ∷ 32 ∷ 49 ∷ 32 ∷ 48 ∷ 32 ∷ 50 ∷ 32 ∷ 50 ∷ 32 ∷ 48 ∷ 32 ∷ 48
    ∷ 32 ∷ 52 ∷ 48 ∷ 48 ∷ 48 ∷ 48 ∷ 48 ∷ 32 ∷ 52 ∷ 48 ∷ 48 ∷ 48 ∷ 48 ∷ 48 ∷ 10 ∷ []
second_told = second_sized_told 400000 _ (few_enough 5 400000 (lit≤ tt) (lit< tt) ∙ six_digits)

-- "A refusal prints `no` and its number": `no 6`
pub six_told : head_lines (refused 6) ≡ 110 ∷ 111 ∷ 32 ∷ 54 ∷ 10 ∷ []
unfolding head_lines
six_told = refl

-- "a line `area` with its number from 1 and its permille": `area 2 100`
pub area_told : area_line 2 100 ≡ 97 ∷ 114 ∷ 101 ∷ 97 ∷ 32 ∷ 50 ∷ 32 ∷ 49 ∷ 48 ∷ 48 ∷ 10 ∷ []
unfolding area_line
area_told = refl
