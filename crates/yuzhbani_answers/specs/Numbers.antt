-- A plan and a page as numbers, for a caller in another language. Assumes nothing.
use Rattle.std.specs.Prelude.{◌≡◌, Bool, cond, List, [], ◌∷◌, ◌++◌, ℕ, zero, suc, ◌+◌, ◌-◌, ◌*◌, ◌<◌, min, ltb, get_or, take, replicate}
use Rattle.units.specs.Outcome.{Outcome, given, refused}
use Rattle.planner_rules.specs.declared.pages.PageOrder.{PageOrder}
use Rattle.planner_rules.specs.declared.pages.PageOrder.TheVariants.{DownThenOver, OverThenDown}
use Rattle.planner_rules.specs.declared.pages.Page.{Page}
use Rattle.planner_rules.specs.declared.pages.AreaPlan.{AreaPlan}
use Rattle.planner_rules.specs.declared.pages.AreaPlans.{AreaPlans}
use Rattle.planner_rules.specs.declared.pages.Plan.{Plan}
use Rattle.planner_rules.specs.Areas.{no_plan}
use Rattle.planner_rules.specs.Pages.{note_numbers}

-- ---- to numbers

-- 1 for a mark that is set, else 0
abbrev pub bit : Bool → ℕ
bit b = cond b 1 0

-- 1 for over then down, as in OD
abbrev pub order_number : PageOrder → ℕ
order_number DownThenOver = 0
order_number OverThenDown = 1

-- an area: permille, 1 where no permille fits, row runs, column runs, whether rows and whether columns are empty
abbrev pub area_numbers : AreaPlan → List ℕ
area_numbers a = a.permille ∷ a.unreachable ∷ a.row_runs ∷ a.column_runs ∷ bit a.rows_empty ∷ bit a.columns_empty ∷ []

-- areas, one after another
abbrev pub areas_numbers : List AreaPlan → List ℕ
areas_numbers [] = []
areas_numbers (a ∷ rest) = area_numbers a ++ areas_numbers rest

-- the area that has so many before it; where there is none, one whose numbers are 0
abbrev pub area_at : List AreaPlan → ℕ → AreaPlan
area_at as' k = get_or as' k no_plan

-- eight areas
abbrev pub eight_areas : List AreaPlan → List AreaPlan
eight_areas as' = area_at as' 0 ∷ area_at as' 1 ∷ area_at as' 2 ∷ area_at as' 3 ∷ area_at as' 4 ∷ area_at as' 5 ∷ area_at as' 6 ∷ area_at as' 7 ∷ []

-- how many areas there are, pages, order, the nine notes in order, and the eight areas; behind the last that counts, nothing is meant
unfoldable pub plan_numbers : Plan → List ℕ
plan_numbers p =
    p.areas.count ∷ p.pages ∷ order_number p.order ∷ (note_numbers p.notes ++ areas_numbers (eight_areas p.areas.plans))

-- "A page has its vertical and horizontal run numbers from 0 and both runs", rows first; "A run has first, last, size, empty-body mark, manual-break mark."
unfoldable pub page_numbers : Page → List ℕ
page_numbers p =
    p.vertical ∷ p.horizontal
    ∷ p.rows.first ∷ p.rows.last ∷ p.rows.size ∷ bit p.rows.empty_body ∷ bit p.rows.manual_break
    ∷ p.columns.first ∷ p.columns.last ∷ p.columns.size ∷ bit p.columns.empty_body ∷ bit p.columns.manual_break ∷ []

-- ---- from numbers, whoever wrote them

-- any number above 0 is a mark that is set
abbrev pub is_set : ℕ → Bool
is_set n = ltb 0 n

-- any number above 0 is over then down
abbrev pub order_from : ℕ → PageOrder
order_from n = cond (is_set n) OverThenDown DownThenOver

-- the area that six numbers stand for, from a place on; a permille above 65,535 is 65,535
unfoldable pub area_from : List ℕ → ℕ → AreaPlan
area_from ns at = record {
  permille = min (get_or ns at 0) 65535;
  unreachable = get_or ns (at + 1) 0;
  row_runs = get_or ns (at + 2) 0;
  column_runs = get_or ns (at + 3) 0;
  rows_empty = is_set (get_or ns (at + 4) 0);
  columns_empty = is_set (get_or ns (at + 5) 0);
}

-- the areas; of more than eight, those that stand there are meant
unfoldable pub areas_from : List ℕ → AreaPlans
areas_from ns = record {
  count = get_or ns 0 0;
  plans =
      area_from ns 12 ∷ area_from ns 18 ∷ area_from ns 24 ∷ area_from ns 30 ∷ area_from ns 36 ∷ area_from ns 42
      ∷ area_from ns 48 ∷ area_from ns 54 ∷ [];
}

-- the plan that sixty numbers stand for
unfoldable pub plan_from : List ℕ → Plan
plan_from ns = record {
  areas = areas_from ns;
  pages = get_or ns 1 0;
  order = order_from (get_or ns 2 0);
  notes = record {
    unknown_paper = get_or ns 3 0;
    invalid_margins = get_or ns 4 0;
    scale_clamped = get_or ns 5 0;
    fit_unreachable = get_or ns 6 0;
    titles_ignored = get_or ns 7 0;
    titles_expanded = get_or ns 8 0;
    merge_expansions = get_or ns 9 0;
    break_shifts = get_or ns 10 0;
    overflowing_runs = get_or ns 11 0;
  };
}

-- what an answer and sixty numbers stand for: 0 is a plan, any other number a refusal
abbrev pub told : ℕ → List ℕ → Outcome Plan
told zero ns = given (plan_from ns)
told (suc n) ns = refused (suc n)

-- ---- for the private functions

-- the numbers of a plan up to those of the area that has so many before it, and zeros
unfoldable pub numbers_up_to : Plan → ℕ → List ℕ
unfolding plan_numbers
numbers_up_to p k = take (12 + 6 * k) (plan_numbers p) ++ replicate (48 - 6 * k) 0

-- an area is had back from its numbers
abbrev pub AreaBack : AreaPlan → Type 0
AreaBack a = area_from (area_numbers a) 0 ≡ a

-- so are the first areas
abbrev pub AllBack : List AreaPlan → ℕ → Type 0
AllBack as' n = (k : ℕ) → k < n → AreaBack (area_at as' k)
