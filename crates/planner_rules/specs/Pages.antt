-- Document 01, section "Pages", and document 02, T-02: the pages of each area, one area after another. Assumes nothing.
use Rattle.std.specs.Prelude.{Bool, true, false, cond, ◌&&◌, List, [], ◌∷◌, ◌++◌, map, ℕ, zero, suc, ◌+◌, ◌-◌, ◌*◌, ◌/◌, ◌%◌, ◌<◌, min, leb, ltb}
use Rattle.std.specs.Prelude.{length, get_or, take, drop, Option, Some, None, Result, Ok, Err}
use Rattle.units.specs.Outcome.{Outcome, given, refused}
use Rattle.planner_rules.specs.declared.titles.Title.{Title}
use Rattle.planner_rules.specs.declared.pages.PageOrder.{PageOrder}
use Rattle.planner_rules.specs.declared.pages.PageOrder.TheVariants.{DownThenOver, OverThenDown}
use Rattle.planner_rules.specs.declared.pages.Notes.{Notes}
use Rattle.planner_rules.specs.declared.pages.PageRun.{PageRun}
use Rattle.planner_rules.specs.declared.pages.Page.{Page}
use Rattle.planner_rules.specs.declared.pages.Place.{Place}
use Rattle.planner_rules.specs.declared.pages.AreaPlan.{AreaPlan}
use Rattle.planner_rules.specs.declared.pages.Plan.{Plan}
use Rattle.planner_rules.specs.declared.pages.Spot.{Spot}
use Rattle.planner_rules.specs.Questions.{ask}
use Rattle.planner_rules.specs.Runs.{Run}
use Rattle.planner_rules.specs.Areas.{plans_in, no_plan, over_areas}
use Rattle.planner_rules.specs.Lent.{run_numbers, room_in, number_at}
use Rattle.planner_rules.specs.Scale.{Space, fits_side, printed}

-- ---- the runs that pages are made of

-- a run "at the range's first, size 0"
abbrev pub empty_run : ℕ → Run
empty_run first = record { first = first; last = first; size = 0; slots = 0; grown = 0; manual = 0 }

-- there are no runs
abbrev pub none : {A : Type 0} → List A → Bool
none [] = true
none (x ∷ xs) = false

-- "An axis without runs gets one at the range's first, size 0, empty body"
abbrev pub or_empty : ℕ → List Run → List Run
or_empty first [] = empty_run first ∷ []
or_empty first (r ∷ rs) = r ∷ rs

-- ---- overflowing runs

-- how many of the runs are such that this, "scaled and rounded at the final permille, exceeds the content side"
unfoldable pub overflowing : Space → Title → ℕ → Bool → List Run → ℕ
overflowing s t p empty [] = 0
overflowing s t p empty (r ∷ rs) = cond (fits_side s p (printed s t empty r.first r.size)) 0 1 + overflowing s t p empty rs

-- ---- notes

-- the nine notes as numbers, in order
abbrev pub note_numbers : Notes → List ℕ
note_numbers n =
    n.unknown_paper ∷ n.invalid_margins ∷ n.scale_clamped ∷ n.fit_unreachable ∷ n.titles_ignored ∷ n.titles_expanded ∷ n.merge_expansions
    ∷ n.break_shifts ∷ n.overflowing_runs ∷ []

-- the notes that nine numbers stand for
abbrev pub notes_from : List ℕ → Notes
notes_from ns = record {
  unknown_paper = get_or ns 0 0;
  invalid_margins = get_or ns 1 0;
  scale_clamped = get_or ns 2 0;
  fit_unreachable = get_or ns 3 0;
  titles_ignored = get_or ns 4 0;
  titles_expanded = get_or ns 5 0;
  merge_expansions = get_or ns 6 0;
  break_shifts = get_or ns 7 0;
  overflowing_runs = get_or ns 8 0;
}

-- ---- pages

-- the order of pages, by whether it is over then down
abbrev pub order_by : Bool → PageOrder
order_by over_then_down = cond over_then_down OverThenDown DownThenOver

-- an index as a page has it: a number that no u32 holds, which no plan writes, counts as the largest that one holds
abbrev pub index_of : ℕ → ℕ
index_of n = min n 4294967295

-- "A run has first, last, size, empty-body mark, manual-break mark": the run with the number k of a list
abbrev pub run_at : List ℕ → Bool → ℕ → PageRun
run_at l empty k = record {
  first = index_of (number_at l k 0);
  last = index_of (number_at l k 1);
  size = number_at l k 2;
  empty_body = empty;
  manual_break = ltb 0 (number_at l k 3);
}

-- "A page has its vertical and horizontal run numbers from 0 and both runs": of an area, over the lists from its runs on
abbrev pub page_at : List ℕ → List ℕ → AreaPlan → ℕ → ℕ → Page
page_at rows columns a v h = record {
  vertical = v;
  horizontal = h;
  rows = run_at rows a.rows_empty v;
  columns = run_at columns a.columns_empty h;
}

-- the numbers from k on, so many: std's `range_with_len`, in the words of the pages' order below
unfoldable pub up_from : ℕ → ℕ → List ℕ
up_from k zero = []
up_from k (suc n) = k ∷ up_from (suc k) n

-- lists one after another: std's `flat_map` of each list as it is
unfoldable pub joined : {A : Type 0} → List (List A) → List A
joined [] = []
joined (xs ∷ rest) = xs ++ joined rest

-- "Default order goes down, then over": all pages of one column of pages, then those of the next; the other order goes by rows of pages
unfoldable pub in_order : {A : Type 0} → PageOrder → ℕ → ℕ → (ℕ → ℕ → A) → List A
unfolding up_from joined
in_order DownThenOver rows columns page = joined (map (λ (h : ℕ). map (λ (v : ℕ). page v h) (up_from 0 rows)) (up_from 0 columns))
in_order OverThenDown rows columns page = joined (map (λ (v : ℕ). map (λ (h : ℕ). page v h) (up_from 0 columns)) (up_from 0 rows))

-- how many pages an area has
abbrev pub pages_in : AreaPlan → ℕ
pages_in a = a.row_runs * a.column_runs

-- the pages of an area, in order, over the lists from its runs on
unfoldable pub area_pages : PageOrder → AreaPlan → List ℕ → List ℕ → List Page
unfolding in_order
area_pages order a rows columns = in_order order a.row_runs a.column_runs (page_at rows columns a)

-- a list from after its first n runs on
abbrev pub after_runs : ℕ → List ℕ → List ℕ
after_runs n l = drop (run_numbers * n) l

-- "Run lists hold the areas' runs in job order": the pages of the first area are made of the runs at the front, those of the areas after it of
-- the runs after them; "a page's run numbers start at 0 in each area"
unfoldable pub areas_pages : PageOrder → List AreaPlan → List ℕ → List ℕ → List Page
unfolding area_pages
areas_pages order [] rows columns = []
areas_pages order (a ∷ areas) rows columns =
    area_pages order a rows columns
    ++ areas_pages order areas (after_runs a.row_runs rows) (after_runs a.column_runs columns)

-- the pages of a plan, in order: "page numbers run on"; no more than its count
unfoldable pub pages_of : Plan → List ℕ → List ℕ → List Page
unfolding areas_pages
pages_of p rows columns = take p.pages (areas_pages p.order (plans_in p.areas) rows columns)

-- how many runs of rows the areas have together
abbrev pub row_runs : List AreaPlan → ℕ
row_runs = over_areas (λ (a : AreaPlan). a.row_runs)

-- and of columns
abbrev pub column_runs : List AreaPlan → ℕ
column_runs = over_areas (λ (a : AreaPlan). a.column_runs)

-- 11 of areas and two lists with so much room: "Row and column runs fit their lent lists?"
unfoldable pub runs_held : List AreaPlan → ℕ → ℕ → Bool
runs_held areas row_room column_room = leb (row_runs areas) row_room && leb (column_runs areas) column_room

-- ---- one page by its number

-- 11 of a plan and the two lists of its runs: they have room for as many as all areas say
abbrev pub holds_runs : Plan → List ℕ → List ℕ → Bool
holds_runs p rows columns = runs_held (plans_in p.areas) (room_in rows) (room_in columns)

-- the n-th of a list, from 1: "Page number from 1 to the count?"
unfoldable pub numbered : {A : Type 0} → List A → ℕ → Outcome A
numbered [] n = refused 14
numbered (x ∷ xs) zero = refused 14
numbered (x ∷ xs) (suc zero) = given x
numbered (x ∷ xs) (suc (suc n)) = numbered xs (suc n)

-- 11, 14, and the page
unfoldable pub page_numbered : Plan → List ℕ → List ℕ → ℕ → Outcome Page
unfolding pages_of numbered runs_held
page_numbered p rows columns n = ask 11 (holds_runs p rows columns) (numbered (pages_of p rows columns) n)

-- ---- the whole list

-- 11, and 13: "Pages fit the lent list of page records?", of which there is so much room; and how many they are
unfoldable pub list_pages : Plan → List ℕ → List ℕ → ℕ → Outcome ℕ
unfolding pages_of runs_held
list_pages p rows columns room =
    ask 11 (holds_runs p rows columns) (ask 13 (leb (length (pages_of p rows columns)) room) (given (length (pages_of p rows columns))))

-- "The whole list can be written to a lent list": the pages, followed by what stood there before; and "A "no" returns the number and changes nothing lent."
abbrev pub pages_lent : Outcome ℕ → List Page → List Page → List Page
pages_lent (given n) pages old = pages ++ drop (length pages) old
pages_lent (refused n) pages old = old

-- ---- where a page stands

-- the spot of the page that has so many pages before it; the areas' first is the k-th, from 0
unfoldable pub spot_from : ℕ → ℕ → List AreaPlan → Option Spot
spot_from k before [] = None
spot_from k before (a ∷ areas) =
    cond (ltb before (pages_in a)) (Some (record { area = k; before = before })) (spot_from (k + 1) (before - pages_in a) areas)

-- the spot of the page with a number: "Page number from 1 to the count?"
unfoldable pub spot_of : Plan → ℕ → Option Spot
unfolding spot_from
spot_of p n = cond (leb 1 n && leb n p.pages) (spot_from 0 (n - 1) (plans_in p.areas)) None

-- ---- an area's own pages, over lists that hold its runs at the front

-- 11 of an area and two lists
abbrev pub holds_area : AreaPlan → List ℕ → List ℕ → Bool
holds_area a rows columns = leb a.row_runs (room_in rows) && leb a.column_runs (room_in columns)

-- 11, 14, and the page with a number from 1 among the area's own
unfoldable pub area_numbered : PageOrder → AreaPlan → List ℕ → List ℕ → ℕ → Outcome Page
unfolding area_pages numbered
area_numbered order a rows columns n = ask 11 (holds_area a rows columns) (numbered (area_pages order a rows columns) n)

-- ---- for the private functions

-- how many pages a plan has, where no count goes past the places that the runs make
abbrev pub page_count : Plan → ℕ
page_count p = min p.pages (over_areas pages_in (plans_in p.areas))

-- where the page of an area stands that has so many of the area's pages before it: "down, then over", or the other order
abbrev pub place_of : PageOrder → ℕ → ℕ → ℕ → Place
place_of DownThenOver rows columns before = record { vertical = before % rows; horizontal = before / rows }
place_of OverThenDown rows columns before = record { vertical = before / columns; horizontal = before % columns }

-- the page there, over the lists from the area's runs on
unfoldable pub area_page_after : PageOrder → AreaPlan → List ℕ → List ℕ → ℕ → Page
area_page_after order a rows columns before =
    let place = place_of order a.row_runs a.column_runs before in
    page_at rows columns a place.vertical place.horizontal

-- a walk over the areas that takes off the pages of each that has no more than are left: the spot of the page that has so many before it, or, where
-- there is none, how many are left past the last area. The areas' first is the k-th, from 0
unfoldable pub walk_from : ℕ → ℕ → List AreaPlan → Result Spot ℕ
walk_from k before [] = Err before
walk_from k before (a ∷ areas) =
    cond (ltb before (pages_in a)) (Ok (record { area = k; before = before })) (walk_from (k + 1) (before - pages_in a) areas)

-- a spot is that of a page of the areas
abbrev pub Stands : List AreaPlan → Spot → Type 0
Stands areas s = (s.area < length areas) × (s.before < pages_in (get_or areas s.area no_plan))

-- the page at a spot of the areas, whose lists have the runs of the areas before it first
abbrev pub spot_page : PageOrder → List AreaPlan → List ℕ → List ℕ → Spot → Page
spot_page order areas rows columns s =
    area_page_after order (get_or areas s.area no_plan) (after_runs (row_runs (take s.area areas)) rows)
    (after_runs (column_runs (take s.area areas)) columns) s.before
