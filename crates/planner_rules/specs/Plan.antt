-- The plan call: what document 01's sections give, one after another, for both axes of each area, joined in job order (document 02, T-02), and
-- what is asked first ("Questions in order"). Assumes nothing.
use Rattle.std.specs.Prelude.{◌≡◌, Bool, cond, ◌&&◌, List, [], map, ℕ, ◌+◌, ◌≤◌, max, min, leb, eqb, ℤ, length, Result, Ok, Err}
use Rattle.units.specs.declared.refusal.Refusal.{Refusal}
use Rattle.units.specs.Outcome.{Outcome, given, refused, and_then}
use Rattle.units.specs.Refusals.{number_of}
use Rattle.geometry.specs.Paper.{PaperFound, Placed, paper_geometry, content_geometry}
use Rattle.planner_rules.specs.declared.titles.Axis.{Axis}
use Rattle.planner_rules.specs.declared.titles.Axis.TheVariants.{Rows, Columns}
use Rattle.planner_rules.specs.declared.titles.Title.{Title}
use Rattle.planner_rules.specs.declared.titles.Widened.{Widened}
use Rattle.planner_rules.specs.declared.runs.Frame.{Frame}
use Rattle.planner_rules.specs.declared.runs.Tally.{Tally}
use Rattle.planner_rules.specs.declared.scale.Fit.{Fit}
use Rattle.planner_rules.specs.declared.pages.AreaPlan.{AreaPlan}
use Rattle.planner_rules.specs.declared.pages.Notes.{Notes}
use Rattle.planner_rules.specs.declared.pages.Plan.{Plan}
use Rattle.planner_rules.specs.declared.planning.Settings.{Settings}
use Rattle.planner_rules.specs.declared.planning.PrintRange.{PrintRange}
use Rattle.planner_rules.specs.declared.planning.AreaNotes.{AreaNotes}
use Rattle.planner_rules.specs.declared.planning.CountedArea.{CountedArea}
use Rattle.planner_rules.specs.declared.planning.RunCounts.{RunCounts}
use Rattle.planner_rules.specs.declared.planning.AxisRange.{AxisRange}
use Rattle.planner_rules.specs.declared.planning.Ready.{Ready}
use Rattle.planner_rules.specs.declared.planning.FinalCut.{FinalCut}
use Rattle.planner_rules.specs.declared.planning.ContentSides.{ContentSides}
use Rattle.planner_rules.specs.Slots.{Slots, below, mid}
use Rattle.planner_rules.specs.Questions.{ask, equally_long, all_ordered, all_within, rising_within, all_small, no_or}
use Rattle.planner_rules.specs.Areas.{one_to_eight, every_area, upright, inside_grid, held_plans, over_areas}
use Rattle.planner_rules.specs.Union.{cells_hold}
use Rattle.planner_rules.specs.Titles.{limit_of, widened, body_start, title_total}
use Rattle.planner_rules.specs.Runs.{Run, axis_runs, shifts, expansions}
use Rattle.planner_rules.specs.Lent.{room_in, flat}
use Rattle.planner_rules.specs.Partition.{lent}
use Rattle.planner_rules.specs.Scale.{Scale, Space, Body, or_else, default_target, frame_for, fixed_scale, axis_passes, fit_scale, space_of, body_for, Low}
use Rattle.planner_rules.specs.Pages.{none, or_empty, overflowing, joined, numbered, pages_in}

-- ---- an axis, as it is handed over

-- the grid's last index, the range, the title, the measured slots, the merges, the breaks that are looked at, the headings, and the page
-- target, 0 for none
pub record AxisInput : Type 0 where
  pub limit : ℕ
  pub first : ℕ
  pub last : ℕ
  pub title : Title
  pub indexes : List ℕ
  pub sizes : List ℕ
  pub merge_firsts : List ℕ
  pub merge_lasts : List ℕ
  pub breaks : List ℕ
  pub headings : ℕ
  pub target : ℕ

-- "Fit on: .. manual breaks are ignored."
abbrev pub looked_at : Bool → List ℕ → List ℕ
looked_at fit breaks = cond fit [] breaks

-- "Headings, if on, take 38,912 of width and 17,408 of height"; "targets absent mean 1"; "FW for columns, FH for rows"
abbrev pub rows_of : Settings → PrintRange → Title → List ℕ → List ℕ → List ℕ → List ℕ → List ℕ → AxisInput
rows_of s g title is ss fs ls bs = record {
  limit = limit_of Rows;
  first = g.first_row;
  last = g.last_row;
  title = title;
  indexes = is;
  sizes = ss;
  merge_firsts = fs;
  merge_lasts = ls;
  breaks = looked_at s.fit bs;
  headings = cond s.headings 17408 0;
  target = or_else s.fit_height default_target;
}

-- the columns of an area
abbrev pub columns_of : Settings → PrintRange → Title → List ℕ → List ℕ → List ℕ → List ℕ → List ℕ → AxisInput
columns_of s g title is ss fs ls bs = record {
  limit = limit_of Columns;
  first = g.first_column;
  last = g.last_column;
  title = title;
  indexes = is;
  sizes = ss;
  merge_firsts = fs;
  merge_lasts = ls;
  breaks = looked_at s.fit bs;
  headings = cond s.headings 38912 0;
  target = or_else s.fit_width default_target;
}

-- what is handed over beside the areas: settings, titles, measured slots, merges and breaks
pub record Sheet : Type 0 where
  pub settings : Settings
  pub row_title : Title
  pub column_title : Title
  pub row_indexes : List ℕ
  pub row_sizes : List ℕ
  pub column_indexes : List ℕ
  pub column_sizes : List ℕ
  pub merge_first_rows : List ℕ
  pub merge_first_columns : List ℕ
  pub merge_last_rows : List ℕ
  pub merge_last_columns : List ℕ
  pub row_breaks : List ℕ
  pub column_breaks : List ℕ

-- all of it together
abbrev pub sheet_of : Settings → Title → Title → List ℕ → List ℕ → List ℕ → List ℕ → List ℕ → List ℕ → List ℕ → List ℕ → List ℕ → List ℕ → Sheet
sheet_of s rt ct ri rs ci cs fr fc lr lc rb cb = record {
  settings = s;
  row_title = rt;
  column_title = ct;
  row_indexes = ri;
  row_sizes = rs;
  column_indexes = ci;
  column_sizes = cs;
  merge_first_rows = fr;
  merge_first_columns = fc;
  merge_last_rows = lr;
  merge_last_columns = lc;
  row_breaks = rb;
  column_breaks = cb;
}

-- the rows of an area
abbrev pub rows_in : Sheet → PrintRange → AxisInput
rows_in s g =
    rows_of s.settings g s.row_title s.row_indexes s.row_sizes s.merge_first_rows s.merge_last_rows s.row_breaks

-- its columns
abbrev pub columns_in : Sheet → PrintRange → AxisInput
columns_in s g =
    columns_of s.settings g s.column_title s.column_indexes s.column_sizes s.merge_first_columns s.merge_last_columns s.column_breaks

-- ---- titles and body

-- the title as its merges leave it, with its notes
abbrev pub title_of : AxisInput → Widened
title_of a = widened a.limit a.title a.merge_firsts a.merge_lasts

-- where the body starts
abbrev pub start_of : AxisInput → ℕ
start_of a = body_start (title_of a).title a.first

-- of a list that goes with the indexes: "The body is the measured slots from there to the range's last."
abbrev pub body_part : AxisInput → List ℕ → List ℕ
body_part a xs = mid (below (start_of a) a.indexes) (below (a.last + 1) a.indexes) xs

-- what is cut
unfoldable pub body_of : AxisInput → Body
body_of a = record {
  title = (title_of a).title;
  lo = start_of a;
  hi = a.last;
  firsts = a.merge_firsts;
  lasts = a.merge_lasts;
  indexes = body_part a a.indexes;
  sizes = body_part a a.sizes;
}

-- what the axis has on a page with this content side
unfoldable pub space_on : ℤ → AxisInput → Space
space_on side a = record { side = side; headings = a.headings; titles = title_total (title_of a).title a.indexes a.sizes }

-- ---- paper and content

-- the content's sides, and the notes on paper and margins
pub record Sides : Type 0 where
  pub width : ℤ
  pub height : ℤ
  pub unknown : ℕ
  pub invalid : ℕ

-- both content sides, with what was noted of paper and margins (section "Paper and content")
unfoldable pub content_sides : Settings → Outcome Sides
content_sides s =
    and_then (paper_geometry s.paper s.landscape)
    (λ (p : PaperFound). and_then (content_geometry p.width p.height s.margins)
    (λ (c : Placed). given (record { width = c.width; height = c.height; unknown = p.unknown; invalid = c.invalid })))

-- ---- scale

-- "A permille passes when both axes .. "
abbrev pub passes_both : Sides → AxisInput → AxisInput → ℕ → Bool
passes_both c rows columns p =
    axis_passes (space_on c.height rows) (body_of rows) rows.target p && axis_passes (space_on c.width columns) (body_of columns) columns.target p

-- the scale of a plan: by fitting both axes, or by percent (section "Scale")
unfoldable pub chosen_scale : Settings → Sides → AxisInput → AxisInput → Scale
chosen_scale s c rows columns = cond s.fit (fit_scale (passes_both c rows columns)) (fixed_scale s.percent)

-- ---- the final cuts

-- the runs of the body at a permille, with the breaks
unfoldable pub cut_runs : ℤ → AxisInput → ℕ → List Run
cut_runs side a p =
    let b = body_of a in
    axis_runs (frame_for (space_on side a) b p) b.firsts b.lasts b.indexes b.sizes 0 a.breaks

-- the shifts of that cut
unfoldable pub cut_shifts : ℤ → AxisInput → ℕ → ℕ
cut_shifts side a p =
    let b = body_of a in
    shifts (frame_for (space_on side a) b p) b.firsts b.lasts b.indexes 0 a.breaks

-- the runs that pages are made of
unfoldable pub page_runs : ℤ → AxisInput → ℕ → List Run
page_runs side a p = or_empty a.first (cut_runs side a p)

-- an axis without runs
abbrev pub body_is_empty : ℤ → AxisInput → ℕ → Bool
body_is_empty side a p = none (cut_runs side a p)

-- how many runs of an axis overflow
abbrev pub overflows : ℤ → AxisInput → ℕ → ℕ
overflows side a p =
    overflowing (space_on side a) (title_of a).title p (body_is_empty side a p) (page_runs side a p)

-- ---- an area of a plan

-- what an area comes to, its notes, and the runs that it writes to the lent lists
pub record AreaLayout : Type 0 where
  pub counted : CountedArea
  pub rows : List Run
  pub columns : List Run

-- "The last three count both axes in the final cuts only"
unfoldable pub counted_at : Sides → AxisInput → AxisInput → Scale → CountedArea
counted_at c rows columns scale =
    let p = scale.permille in
    record {
      area = record {
        permille = p;
        unreachable = scale.unreachable;
        row_runs = length (page_runs c.height rows p);
        column_runs = length (page_runs c.width columns p);
        rows_empty = body_is_empty c.height rows p;
        columns_empty = body_is_empty c.width columns p;
      };
      notes = record {
        clamped = scale.clamp;
        unreachable = scale.unreachable;
        expansions = expansions (cut_runs c.height rows p) + expansions (cut_runs c.width columns p);
        shifts = cut_shifts c.height rows p + cut_shifts c.width columns p;
        overflows = overflows c.height rows p + overflows c.width columns p;
      };
    }

-- an area at a scale, with the runs of both axes
unfoldable pub area_at : Sides → AxisInput → AxisInput → Scale → AreaLayout
area_at c rows columns scale = record {
  counted = counted_at c rows columns scale;
  rows = page_runs c.height rows scale.permille;
  columns = page_runs c.width columns scale.permille;
}

-- "Each area gets its own scale, runs and pages": an area at the scale that is chosen for it
unfoldable pub area_layout : Sides → Sheet → PrintRange → AreaLayout
area_layout c sheet g = area_at c (rows_in sheet g) (columns_in sheet g) (chosen_scale sheet.settings c (rows_in sheet g) (columns_in sheet g))

-- "in job order"
abbrev pub layouts_of : Sides → Sheet → List PrintRange → List AreaLayout
layouts_of c sheet gs = map (area_layout c sheet) gs

-- ---- a plan

-- what a plan answers, and the runs that it writes to the lent lists
pub record Layout : Type 0 where
  pub plan : Plan
  pub rows : List Run
  pub columns : List Run

-- what an area comes to
abbrev pub plan_in : AreaLayout → AreaPlan
plan_in l = l.counted.area

-- a note of the areas, added up
abbrev pub noted : (AreaNotes → ℕ) → List AreaLayout → ℕ
noted note ls = over_areas (λ (l : AreaLayout). note l.counted.notes) ls

-- the title of the rows as its merges leave it, with its notes; of columns
abbrev pub row_title_of : Sheet → Widened
row_title_of s = widened (limit_of Rows) s.row_title s.merge_first_rows s.merge_last_rows

abbrev pub column_title_of : Sheet → Widened
column_title_of s = widened (limit_of Columns) s.column_title s.merge_first_columns s.merge_last_columns

-- "u64 counts": a sum that no u64 holds, which only 2^61 breaks and more come to, counts as the largest that one holds
abbrev pub as_count : ℕ → ℕ
as_count n = min n 18446744073709551615

-- "Paper, margin and title notes count once a job; the others add up over the areas."
abbrev pub notes_of : Sides → Sheet → List AreaLayout → Notes
notes_of c sheet ls = record {
  unknown_paper = c.unknown;
  invalid_margins = c.invalid;
  scale_clamped = noted (λ (n : AreaNotes). n.clamped) ls;
  fit_unreachable = noted (λ (n : AreaNotes). n.unreachable) ls;
  titles_ignored = (row_title_of sheet).ignored + (column_title_of sheet).ignored;
  titles_expanded = (row_title_of sheet).expanded + (column_title_of sheet).expanded;
  merge_expansions = noted (λ (n : AreaNotes). n.expansions) ls;
  break_shifts = as_count (noted (λ (n : AreaNotes). n.shifts) ls);
  overflowing_runs = noted (λ (n : AreaNotes). n.overflows) ls;
}

-- the plan of areas: what each came to, and "the pages' total"
unfoldable pub plan_of : Sides → Sheet → List AreaLayout → Plan
plan_of c sheet ls = record {
  areas = held_plans (map plan_in ls);
  pages = over_areas (λ (l : AreaLayout). pages_in (plan_in l)) ls;
  order = sheet.settings.order;
  notes = notes_of c sheet ls;
}

-- "Run lists hold the areas' runs in job order"
abbrev pub row_runs_of : List AreaLayout → List Run
row_runs_of ls = joined (map (λ (l : AreaLayout). l.rows) ls)

abbrev pub column_runs_of : List AreaLayout → List Run
column_runs_of ls = joined (map (λ (l : AreaLayout). l.columns) ls)

-- the plan of areas, with their runs
unfoldable pub layout : Sides → Sheet → List PrintRange → Layout
layout c sheet gs =
    let ls = layouts_of c sheet gs in
    record { plan = plan_of c sheet ls; rows = row_runs_of ls; columns = column_runs_of ls }

-- ---- the questions

-- 6: "Slices that make up one list equally long, and firsts not above lasts in AR and every MR"
unfoldable pub formed : Sheet → List PrintRange → Bool
formed s gs =
    equally_long s.row_indexes s.row_sizes
    && equally_long s.merge_first_rows s.merge_last_rows
    && all_ordered s.merge_first_rows s.merge_last_rows
    && (equally_long s.column_indexes s.column_sizes
    && equally_long s.merge_first_columns s.merge_last_columns
    && all_ordered s.merge_first_columns s.merge_last_columns)
    && equally_long s.merge_first_rows s.merge_first_columns
    && every_area upright gs

-- 7: "AR and every MR inside the grid"
unfoldable pub in_grid : Sheet → List PrintRange → Bool
in_grid s gs =
    all_within (limit_of Rows) s.merge_last_rows && all_within (limit_of Columns) s.merge_last_columns && every_area inside_grid gs

-- 8: "Slot indexes strictly rising and inside the grid"
abbrev pub rises : Sheet → Bool
rises s = rising_within (limit_of Rows) s.row_indexes && rising_within (limit_of Columns) s.column_indexes

-- 9: "Sizes 0 to 1,073,741,823"
abbrev pub small : Sheet → Bool
small s = all_small s.row_sizes && all_small s.column_sizes

-- the questions 4, 6, 7, 15, 8, 9 and 10 in order, then what is made of the content's sides
unfoldable pub questioned : {A : Type 0} → Sheet → List PrintRange → (Sides → Outcome A) → Outcome A
questioned s areas rest =
    ask 4 (one_to_eight (length areas))
    (ask 6 (formed s areas)
    (ask 7 (in_grid s areas)
    (ask 15 (cells_hold s.settings.cell_limit areas)
    (ask 8 (rises s)
    (ask 9 (small s)
    (and_then (content_sides s.settings) rest))))))

-- ---- the calls

-- 12: "Pages at most the limit?", of the pages' total
unfoldable pub within_limit : Sheet → Layout → Outcome Layout
within_limit s l = ask 12 (leb l.plan.pages s.settings.page_limit) (given l)

-- 11 of all areas' runs together: "Items read, and row and column runs, fit their lent lists?", then 12
unfoldable pub room_for : Sheet → Layout → ℕ → ℕ → Outcome Layout
unfolding within_limit
room_for s l row_room column_room =
    ask 11 (leb (length l.rows) row_room && leb (length l.columns) column_room) (within_limit s l)

-- `plan_pages`; the lent lists are that of the row runs and that of the column runs
unfoldable pub planned : Sheet → List PrintRange → List ℕ → List ℕ → Outcome Layout
unfolding questioned room_for
planned s areas lent_rows lent_columns =
    questioned s areas (λ (c : Sides). room_for s (layout c s areas) (room_in lent_rows) (room_in lent_columns))

-- `count_pages`: the same plan, of a call that was lent no list
unfoldable pub counted : Sheet → List PrintRange → Outcome Layout
unfolding questioned within_limit
counted s areas = questioned s areas (λ (c : Sides). within_limit s (layout c s areas))

-- an area at a permille: its scale is not searched
abbrev pub scale_at : ℕ → Scale
scale_at p = record { permille = p; clamp = 0; unreachable = 0 }

-- 11 of one area's runs
abbrev pub area_room : AreaLayout → ℕ → ℕ → Outcome AreaLayout
area_room l row_room column_room =
    ask 11 (leb (length l.rows) row_room && leb (length l.columns) column_room) (given l)

-- 10 of the permille, for at 0 there is no capacity; 14 of the area's number, from 1; then 11, and the area's runs at the permille
unfoldable pub numbered_area : Sides → Sheet → List PrintRange → ℕ → ℕ → List ℕ → List ℕ → Outcome AreaLayout
unfolding numbered
numbered_area c s areas n p lent_rows lent_columns =
    ask 10 (leb 1 p) (and_then (numbered areas n)
    (λ (g : PrintRange). area_room (area_at c (rows_in s g) (columns_in s g) (scale_at p)) (room_in lent_rows) (room_in lent_columns)))

-- `write_area`
unfoldable pub area_written : Sheet → List PrintRange → ℕ → ℕ → List ℕ → List ℕ → Outcome AreaLayout
unfolding questioned numbered_area
area_written s areas n p lent_rows lent_columns = questioned s areas (λ (c : Sides). numbered_area c s areas n p lent_rows lent_columns)

-- the runs that were planned
abbrev pub rows_planned : Outcome Layout → List Run
rows_planned (given l) = l.rows
rows_planned (refused n) = []

abbrev pub columns_planned : Outcome Layout → List Run
columns_planned (given l) = l.columns
columns_planned (refused n) = []

-- the plan or the number that was answered, and the lent lists of both axes, which were rows₀ and columns₀
pub record Planned (o : Outcome Layout) (r : Outcome Plan) (rows₀ columns₀ rows columns : List ℕ) : Type 0 where
  pub answer : r ≡ and_then o (λ (l : Layout). given l.plan)
  pub rows_are : rows ≡ lent o (flat (rows_planned o)) rows₀
  pub columns_are : columns ≡ lent o (flat (columns_planned o)) columns₀

-- the answer of a call that counts
abbrev pub Counted : Outcome Layout → Outcome Plan → Type 0
Counted o r = r ≡ and_then o (λ (l : Layout). given l.plan)

-- the runs of an area that were written
abbrev pub rows_written : Outcome AreaLayout → List Run
rows_written (given l) = l.rows
rows_written (refused n) = []

abbrev pub columns_written : Outcome AreaLayout → List Run
columns_written (given l) = l.columns
columns_written (refused n) = []

-- how many
abbrev pub counts_of : AreaLayout → RunCounts
counts_of l = record { rows = length l.rows; columns = length l.columns }

-- the counts or the number that was answered, and the lent lists of a call that writes an area
pub record AreaWrote (o : Outcome AreaLayout) (r : Outcome RunCounts) (rows₀ columns₀ rows columns : List ℕ) : Type 0 where
  pub answer : r ≡ and_then o (λ (l : AreaLayout). given (counts_of l))
  pub rows_are : rows ≡ lent o (flat (rows_written o)) rows₀
  pub columns_are : columns ≡ lent o (flat (columns_written o)) columns₀

-- ---- for the private functions

-- what structs of the code stand for
abbrev pub axis_for : AxisRange → List ℕ → List ℕ → List ℕ → List ℕ → List ℕ → AxisInput
axis_for r is ss fs ls bs = record {
  limit = r.limit;
  first = r.first;
  last = r.last;
  title = r.title;
  indexes = is;
  sizes = ss;
  merge_firsts = fs;
  merge_lasts = ls;
  breaks = bs;
  headings = r.headings;
  target = r.target;
}

-- both sides as they were found
abbrev pub sides_of : ContentSides → Sides
sides_of c = record { width = c.width.0; height = c.height.0; unknown = c.unknown; invalid = c.invalid }

-- the sides or the number that an answer of `content_sides` stands for
abbrev pub sides_outcome : Result ContentSides Refusal → Outcome Sides
sides_outcome (Ok c) = given (sides_of c)
sides_outcome (Err r) = refused (number_of r)

-- a ready axis is this one
pub record ReadyFor (r : Ready) (side : ℤ) (a : AxisInput) : Type 0 where
  pub space_is : space_of r.fit.page ≡ space_on side a
  pub title_is : r.fit.stretch.title ≡ (title_of a).title
  pub lo_is : r.fit.stretch.lo ≡ start_of a
  pub hi_is : r.fit.stretch.hi ≡ a.last
  pub target_is : r.fit.target ≡ a.target
  pub from_is : r.from ≡ below (start_of a) a.indexes
  pub to_is : r.to ≡ max r.from (below (a.last + 1) a.indexes)
  pub low : Low r.fit.page

-- an axis as the settings make it
abbrev pub AreRows : AxisRange → Settings → PrintRange → Title → Type 0
AreRows r s g title = (is ss fs ls bs : List ℕ) → axis_for r is ss fs ls (looked_at s.fit bs) ≡ rows_of s g title is ss fs ls bs

-- the same of columns
abbrev pub AreColumns : AxisRange → Settings → PrintRange → Title → Type 0
AreColumns r s g title = (is ss fs ls bs : List ℕ) → axis_for r is ss fs ls (looked_at s.fit bs) ≡ columns_of s g title is ss fs ls bs

-- the axis that is asked for, as the settings and a range make it
abbrev pub IsRange : Axis → AxisRange → Settings → PrintRange → Title → Type 0
IsRange Rows = AreRows
IsRange Columns = AreColumns

-- what a ready axis has of a list that goes with the indexes
abbrev pub within : Ready → List ℕ → List ℕ
within r xs = mid r.from r.to xs

-- what the runs of a ready axis go by at a permille
abbrev pub ready_frame : Fit → ℕ → Frame
ready_frame f p = frame_for (space_of f.page) (body_for f.stretch [] [] [] []) p

-- the runs of a ready axis at a permille
abbrev pub ready_runs : Ready → ℕ → List ℕ → List ℕ → List ℕ → List ℕ → List ℕ → List Run
ready_runs r p is ss fs ls bs = axis_runs (ready_frame r.fit p) fs ls (within r is) (within r ss) 0 bs

-- the shifts of that cut
abbrev pub ready_shifts : Ready → ℕ → List ℕ → List ℕ → List ℕ → List ℕ → ℕ
ready_shifts r p is fs ls bs = shifts (ready_frame r.fit p) fs ls (within r is) 0 bs

-- the numbers of a final cut, of which so many runs overflow
abbrev pub cut_of : List Run → ℕ → ℕ → FinalCut
cut_of rs n o = record { runs = length (or_empty 0 rs); empty = none rs; expansions = expansions rs; shifts = n; overflows = o }

-- the overflowing runs of a ready axis at a permille: where an empty run stands does not matter
abbrev pub ready_overflows : Ready → ℕ → List Run → ℕ
ready_overflows r p rs = overflowing (space_of r.fit.page) r.fit.stretch.title p (none rs) (or_empty 0 rs)

-- a final cut, of what was counted and so many overflowing runs: an axis without runs gets one
abbrev pub cut_from : Tally → ℕ → FinalCut
cut_from t o = record { runs = max t.runs 1; empty = eqb t.runs 0; expansions = t.expansions; shifts = t.shifts; overflows = o }

-- the first of the questions 11 and 12 with the answer no, or 0, of so many runs of rows and of columns and so many pages
unfoldable pub room_no : ℕ → ℕ → ℕ → ℕ → ℕ → ℕ → ℕ
room_no rows columns pages row_room column_room limit =
    no_or 11 (leb rows row_room && leb columns column_room) (no_or 12 (leb pages limit) 0)

-- the slots of a ready axis
pub record Cuttable (r : Ready) (is ss : List ℕ) : Type 0 where
  pub slots : Slots is ss
  pub ordered : r.from ≤ r.to
  pub inside : r.to ≤ length is
  pub low : Low r.fit.page

-- the first of the questions 4, 6, 7, 15, 8 and 9 with the answer no, or 0
unfoldable pub first_no : Sheet → List PrintRange → ℕ
first_no s areas =
    no_or 4 (one_to_eight (length areas))
    (no_or 6 (formed s areas)
    (no_or 7 (in_grid s areas)
    (no_or 15 (cells_hold s.settings.cell_limit areas)
    (no_or 8 (rises s)
    (no_or 9 (small s) 0)))))
