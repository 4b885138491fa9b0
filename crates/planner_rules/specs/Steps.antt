-- What the private functions of the plan calls hand to each other: what all areas share, an area that is ready, counted areas, and runs that are
-- written area by area. Assumes nothing.
use Rattle.std.specs.Prelude.{◌≡◌, Result, Ok, Err, List, [], map, ℕ, ◌+◌, ◌*◌, ◌^◌, ◌≤◌, ◌<◌, max, length, get_or}
use Rattle.units.specs.Grid.{last_row, last_column}
use Rattle.units.specs.Outcome.{Outcome, given, refused}
use Rattle.units.specs.Refusals.{number_of}
use Rattle.units.specs.declared.refusal.Refusal.{Refusal}
use Rattle.units.specs.declared.Fixed.{Fixed}
use Rattle.planner_rules.specs.declared.titles.Axis.TheVariants.{Rows, Columns}
use Rattle.planner_rules.specs.declared.pages.AreaPlan.{AreaPlan}
use Rattle.planner_rules.specs.declared.pages.Plan.{Plan}
use Rattle.planner_rules.specs.declared.planning.PrintRange.{PrintRange}
use Rattle.planner_rules.specs.declared.planning.ReadyTitle.{ReadyTitle}
use Rattle.planner_rules.specs.declared.planning.Ready.{Ready}
use Rattle.planner_rules.specs.declared.planning.ReadyArea.{ReadyArea}
use Rattle.planner_rules.specs.declared.planning.Frames.{Frames}
use Rattle.planner_rules.specs.declared.planning.FinalCut.{FinalCut}
use Rattle.planner_rules.specs.declared.planning.AreaNotes.{AreaNotes}
use Rattle.planner_rules.specs.declared.planning.CountedArea.{CountedArea}
use Rattle.planner_rules.specs.declared.planning.CountedAreas.{CountedAreas}
use Rattle.planner_rules.specs.declared.planning.Shared.{Shared}
use Rattle.planner_rules.specs.Slots.{Slots, Rising, below}
use Rattle.planner_rules.specs.Areas.{no_range, held_plans, pushed, over_areas}
use Rattle.planner_rules.specs.Titles.{limit_of, widened, body_start, title_total}
use Rattle.planner_rules.specs.Runs.{Run}
use Rattle.planner_rules.specs.Lent.{Room}
use Rattle.planner_rules.specs.Scale.{Scale}
use Rattle.planner_rules.specs.Pages.{pages_in}
use Rattle.planner_rules.specs.Plan.{AxisInput, Sheet, rows_of, columns_of, rows_in, columns_in, Sides}
use Rattle.planner_rules.specs.Plan.{sides_of, questioned, page_runs, body_is_empty}
use Rattle.planner_rules.specs.Plan.{AreaLayout, plan_in, noted, as_count, row_runs_of, column_runs_of, ready_frame}
use Rattle.planner_rules.specs.Plan.{ready_runs, ready_shifts, ready_overflows, cut_of}

-- ---- what all areas share

-- the questions 4, 6, 7, 15, 8, 9 and 10: the content's sides, or the first no
abbrev pub asked : Sheet → List PrintRange → Outcome Sides
asked s areas = questioned s areas (λ (c : Sides). given c)

-- the sides
abbrev pub sides_in : Shared → Sides
sides_in x = sides_of x.sides

-- a title that is ready
pub record TitleReady (t : ReadyTitle) (limit : ℕ) (is ss fs ls : List ℕ) : Type 0 where
  pub widened_is : t.widened ≡ widened limit t.asked fs ls
  pub total_is : t.total ≡ title_total t.widened.title is ss
  pub total_low : t.total ≤ 2 ^ 50
  pub starts_low : (first : ℕ) → first ≤ limit → body_start t.widened.title first ≤ limit + 1

-- both titles' notes can be added up
pub record TitlesFew (x : Shared) : Type 0 where
  pub ignored : x.rows.widened.ignored + x.columns.widened.ignored < 2 ^ 64
  pub expanded : x.rows.widened.expanded + x.columns.widened.expanded < 2 ^ 64

-- what all areas of a sheet share, once the questions were answered with yes
pub record Settled (x : Shared) (s : Sheet) : Type 0 where
  pub row_slots : Slots s.row_indexes s.row_sizes
  pub column_slots : Slots s.column_indexes s.column_sizes
  pub rows_ready : TitleReady x.rows (limit_of Rows) s.row_indexes s.row_sizes s.merge_first_rows s.merge_last_rows
  pub columns_ready : TitleReady x.columns (limit_of Columns) s.column_indexes s.column_sizes s.merge_first_columns s.merge_last_columns
  pub titles_few : TitlesFew x

-- an area that 6 and 7 were asked of
pub record FineArea (g : PrintRange) : Type 0 where
  pub rows_upright : g.first_row ≤ g.last_row
  pub columns_upright : g.first_column ≤ g.last_column
  pub rows_inside : g.last_row ≤ last_row
  pub columns_inside : g.last_column ≤ last_column

-- one to eight of them
pub record FineAreas (areas : List PrintRange) : Type 0 where
  pub few : length areas ≤ 8
  pub each : (k : ℕ) → k < length areas → FineArea (get_or areas k no_range)

-- what was prepared of a sheet: what its areas share, or the first no
pub record SharedBy (x : Shared) (s : Sheet) (areas : List PrintRange) : Type 0 where
  pub goes_on : asked s areas ≡ given (sides_in x)
  pub settings_are : x.settings ≡ s.settings
  pub row_title_is : x.rows.asked ≡ s.row_title
  pub column_title_is : x.columns.asked ≡ s.column_title
  pub settled : Settled x s
  pub fine : FineAreas areas

abbrev pub IsPrepared : Result Shared Refusal → Sheet → List PrintRange → Type 0
IsPrepared (Ok x) s areas = SharedBy x s areas
IsPrepared (Err r) s areas = asked s areas ≡ refused (number_of r)

-- ---- an area that is ready

-- an axis of an area that can be made ready
pub record Startable (is : List ℕ) (t : ReadyTitle) (first : ℕ) : Type 0 where
  pub rising : Rising is
  pub start_low : body_start t.widened.title first ≤ last_row + 1

-- an axis with its title, ready to be cut; its sizes, merges and breaks are not looked at
abbrev pub ready_from : Fixed → ReadyTitle → AxisInput → Ready
ready_from side t a = record {
  fit = record {
    page = record { side = side; headings = a.headings; titles = t.total };
    stretch = record { title = t.widened.title; lo = body_start t.widened.title a.first; hi = a.last };
    target = a.target;
  };
  from = below (body_start t.widened.title a.first) a.indexes;
  to = max (below (body_start t.widened.title a.first) a.indexes) (below (a.last + 1) a.indexes);
}

-- both axes of an area
abbrev pub ready_in : Shared → PrintRange → List ℕ → List ℕ → ReadyArea
ready_in x g ri ci = record {
  range = g;
  rows = ready_from x.sides.height x.rows (rows_of x.settings g x.rows.asked ri [] [] [] []);
  columns = ready_from x.sides.width x.columns (columns_of x.settings g x.columns.asked ci [] [] [] []);
}

-- what the runs of both axes go by at a permille
abbrev pub frames_of : ReadyArea → ℕ → Frames
frames_of r p = record { rows = ready_frame r.rows.fit p; columns = ready_frame r.columns.fit p }

-- the final cut of a ready axis
abbrev pub ready_cut : Ready → ℕ → List ℕ → List ℕ → List ℕ → List ℕ → List ℕ → FinalCut
ready_cut r p is ss fs ls bs =
    cut_of (ready_runs r p is ss fs ls bs) (ready_shifts r p is fs ls bs) (ready_overflows r p (ready_runs r p is ss fs ls bs))

-- what an area comes to by its two final cuts
abbrev pub area_from : FinalCut → FinalCut → Scale → CountedArea
area_from r c scale = record {
  area = record {
    permille = scale.permille;
    unreachable = scale.unreachable;
    row_runs = r.runs;
    column_runs = c.runs;
    rows_empty = r.empty;
    columns_empty = c.empty;
  };
  notes = record {
    clamped = scale.clamp;
    unreachable = scale.unreachable;
    expansions = r.expansions + c.expansions;
    shifts = r.shifts + c.shifts;
    overflows = r.overflows + c.overflows;
  };
}

-- two cuts whose notes can be added up
pub record Addable (r c : FinalCut) : Type 0 where
  pub expansions : r.expansions + c.expansions < 2 ^ 64
  pub shifts : r.shifts + c.shifts < 2 ^ 64
  pub overflows : r.overflows + c.overflows < 2 ^ 64

-- an area whose runs and notes are few
pub record FewCut (a : CountedArea) : Type 0 where
  pub rows_few : a.area.row_runs ≤ 2 ^ 20
  pub columns_few : a.area.column_runs ≤ 2 ^ 20
  pub expansions_few : a.notes.expansions ≤ 2 ^ 21
  pub overflows_few : a.notes.overflows ≤ 2 ^ 21

pub record Few (a : CountedArea) : Type 0 where
  pub cut : FewCut a
  pub clamped_few : a.notes.clamped ≤ 1
  pub unreachable_few : a.notes.unreachable ≤ 1

-- ---- counted areas

-- what areas come to together
abbrev pub counted_of : List AreaLayout → CountedAreas
counted_of ls = record {
  areas = held_plans (map plan_in ls);
  rows = over_areas (λ (l : AreaLayout). (plan_in l).row_runs) ls;
  columns = over_areas (λ (l : AreaLayout). (plan_in l).column_runs) ls;
  pages = over_areas (λ (l : AreaLayout). pages_in (plan_in l)) ls;
  notes = record {
    clamped = noted (λ (n : AreaNotes). n.clamped) ls;
    unreachable = noted (λ (n : AreaNotes). n.unreachable) ls;
    expansions = noted (λ (n : AreaNotes). n.expansions) ls;
    shifts = as_count (noted (λ (n : AreaNotes). n.shifts) ls);
    overflows = noted (λ (n : AreaNotes). n.overflows) ls;
  };
}

-- the plan of counted areas
abbrev pub plan_from : Shared → CountedAreas → Plan
plan_from x all = record {
  areas = all.areas;
  pages = all.pages;
  order = x.settings.order;
  notes = record {
    unknown_paper = x.sides.unknown;
    invalid_margins = x.sides.invalid;
    scale_clamped = all.notes.clamped;
    fit_unreachable = all.notes.unreachable;
    titles_ignored = x.rows.widened.ignored + x.columns.widened.ignored;
    titles_expanded = x.rows.widened.expanded + x.columns.widened.expanded;
    merge_expansions = all.notes.expansions;
    break_shifts = all.notes.shifts;
    overflowing_runs = all.notes.overflows;
  };
}

-- how many areas were counted
abbrev pub counted_areas : CountedAreas → ℕ
counted_areas all = all.areas.count

-- so many areas have few runs and notes
pub record FewAll (all : CountedAreas) : Type 0 where
  pub rows_few : all.rows ≤ counted_areas all * 2 ^ 20
  pub columns_few : all.columns ≤ counted_areas all * 2 ^ 20
  pub pages_few : all.pages ≤ counted_areas all * 2 ^ 40
  pub clamped_few : all.notes.clamped ≤ counted_areas all
  pub unreachable_few : all.notes.unreachable ≤ counted_areas all
  pub expansions_few : all.notes.expansions ≤ counted_areas all * 2 ^ 21
  pub overflows_few : all.notes.overflows ≤ counted_areas all * 2 ^ 21

-- an area more, behind the others
pub record Added (r all : CountedAreas) (a : CountedArea) : Type 0 where
  pub plans_are : r.areas ≡ pushed all.areas a.area
  pub rows_are : r.rows ≡ all.rows + a.area.row_runs
  pub columns_are : r.columns ≡ all.columns + a.area.column_runs
  pub pages_are : r.pages ≡ all.pages + pages_in a.area
  pub clamped_is : r.notes.clamped ≡ all.notes.clamped + a.notes.clamped
  pub unreachable_is : r.notes.unreachable ≡ all.notes.unreachable + a.notes.unreachable
  pub expansions_are : r.notes.expansions ≡ all.notes.expansions + a.notes.expansions
  pub shifts_are : r.notes.shifts ≡ as_count (all.notes.shifts + a.notes.shifts)
  pub overflows_are : r.notes.overflows ≡ all.notes.overflows + a.notes.overflows

-- ---- runs that are written

-- the runs of an area at a permille
abbrev pub rows_at : Shared → Sheet → PrintRange → ℕ → List Run
rows_at x s g p = page_runs (sides_in x).height (rows_in s g) p

abbrev pub columns_at : Shared → Sheet → PrintRange → ℕ → List Run
columns_at x s g p = page_runs (sides_in x).width (columns_in s g) p

-- an area whose runs can be written to the fronts of two lists
pub record Writable (x : Shared) (s : Sheet) (g : PrintRange) (a : AreaPlan) (rows columns : List ℕ) : Type 0 where
  pub rows_empty : a.rows_empty ≡ body_is_empty (sides_in x).height (rows_in s g) a.permille
  pub columns_empty : a.columns_empty ≡ body_is_empty (sides_in x).width (columns_in s g) a.permille
  pub row_room : Room (rows_at x s g a.permille) rows
  pub column_room : Room (columns_at x s g a.permille) columns

-- areas whose runs have room
pub record RoomForAll (ls : List AreaLayout) (rows columns : List ℕ) : Type 0 where
  pub row_room : Room (row_runs_of ls) rows
  pub column_room : Room (column_runs_of ls) columns
