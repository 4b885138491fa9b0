-- What 61 numbers ask of a plan, whoever wrote them: settings, areas and titles. Assumes nothing.
use Rattle.std.specs.Prelude.{Bool, cond, ◌&&◌, List, [], ◌∷◌, ℕ, Float, ◌+◌, min, leb, get_or, take, Option, Some, None, Result, Ok, Err}
use Rattle.arrayvec.specs.ArrayVec.{ArrayVec}
use Rattle.units.specs.Outcome.{Outcome, given, refused}
use Rattle.units.specs.Refusals.{number_of}
use Rattle.units.specs.declared.refusal.Refusal.{Refusal}
use Rattle.units.specs.declared.margins.Margins.{Margins}
use Rattle.planner_rules.specs.declared.titles.Title.{Title}
use Rattle.planner_rules.specs.declared.titles.Title.TheVariants as title
use Rattle.planner_rules.specs.declared.planning.Settings.{Settings}
use Rattle.planner_rules.specs.declared.planning.PrintRange.{PrintRange}
use Rattle.planner_rules.specs.Areas.{one_to_eight}
use Rattle.planner_rules.specs.Pages.{index_of}
use Rattle.planner_rules.specs.Plan.{Sheet, sheet_of}
use Rattle.job_settings.specs.Meaning.{inches_of}
use Rattle.yuzhbani_answers.specs.Numbers.{is_set, order_from}

-- a mark at a place, and behind it the number; one above 65,535 is 65,535
abbrev pub setting_from : List ℕ → ℕ → Option ℕ
setting_from ns at = cond (is_set (get_or ns at 0)) (Some (min (get_or ns (at + 1) 0) 65535)) None

-- a mark at a place, and behind it the first and the last
abbrev pub title_from : List ℕ → ℕ → Title
title_from ns at = cond (is_set (get_or ns at 0)) (title.Pair (index_of (get_or ns (at + 1) 0)) (index_of (get_or ns (at + 2) 0))) title.Absent

-- 3 is the mark, 4 to 9 are the bits of left, right, top, bottom, header and footer, in inches
unfoldable pub margins_from : List ℕ → Option (Margins Float)
margins_from ns =
    let bits : Margins ℕ = record {
      left = get_or ns 4 0;
      right = get_or ns 5 0;
      top = get_or ns 6 0;
      bottom = get_or ns 7 0;
      header = get_or ns 8 0;
      footer = get_or ns 9 0;
    } in
    cond (is_set (get_or ns 3 0)) (Some (inches_of bits)) None

-- 20 is the mark, 21 the most cells that may lie in at least one area
abbrev pub cell_limit_from : List ℕ → Option ℕ
cell_limit_from ns = cond (is_set (get_or ns 20 0)) (Some (get_or ns 21 0)) None

-- 0 to 21: paper, landscape, margins, percent, fit, both targets, order, headings, page limit and cell limit
unfoldable pub settings_from : List ℕ → Settings
settings_from ns = record {
  paper = setting_from ns 0;
  landscape = is_set (get_or ns 2 0);
  margins = margins_from ns;
  percent = setting_from ns 10;
  fit = is_set (get_or ns 12 0);
  fit_width = setting_from ns 13;
  fit_height = setting_from ns 15;
  order = order_from (get_or ns 17 0);
  headings = is_set (get_or ns 18 0);
  page_limit = get_or ns 19 0;
  cell_limit = cell_limit_from ns;
}

-- four numbers from a place on: first row, first column, last row, last column
unfoldable pub range_from : List ℕ → ℕ → PrintRange
range_from ns at = record {
  first_row = index_of (get_or ns at 0);
  first_column = index_of (get_or ns (at + 1) 0);
  last_row = index_of (get_or ns (at + 2) 0);
  last_column = index_of (get_or ns (at + 3) 0);
}

-- 22 is how many areas there are, 23 to 54 are the eight; of more, which question 4 refuses, those that stand there
unfoldable pub areas_from : List ℕ → List PrintRange
areas_from ns =
    take (get_or ns 22 0)
    (range_from ns 23 ∷ range_from ns 27 ∷ range_from ns 31 ∷ range_from ns 35 ∷ range_from ns 39 ∷ range_from ns 43 ∷ range_from ns 47
    ∷ range_from ns 51 ∷ [])

-- the areas of an answer, or the number of its refusal
abbrev pub areas_outcome : Result (ArrayVec PrintRange) Refusal → Outcome (List PrintRange)
areas_outcome (Ok areas) = given areas.items
areas_outcome (Err r) = refused (number_of r)

-- 55 to 57: the mark, the first and the last row
abbrev pub row_title_from : List ℕ → Title
row_title_from ns = title_from ns 55

-- 58 to 60: the mark, the first and the last column
abbrev pub column_title_from : List ℕ → Title
column_title_from ns = title_from ns 58

-- the sheet, by what is asked and the ten lists beside it
abbrev pub sheet_requested : List ℕ → List ℕ → List ℕ → List ℕ → List ℕ → List ℕ → List ℕ → List ℕ → List ℕ → List ℕ → List ℕ → Sheet
sheet_requested ns ri rs ci cs fr fc lr lc rb cb =
    sheet_of (settings_from ns) (row_title_from ns) (column_title_from ns) ri rs ci cs fr fc lr lc rb cb

-- 22 is how many areas: "4. .. AR there?", and no more than eight
unfoldable pub areas_counted : List ℕ → Bool
areas_counted ns = one_to_eight (get_or ns 22 0)

-- 12 is fit and 17 the order: "5. FT and OD 0 or 1?"
unfoldable pub flags_hold : List ℕ → Bool
flags_hold ns = leb (get_or ns 12 0) 1 && leb (get_or ns 17 0) 1
