-- A settled sheet and an area of it, and the body of an axis as it is fitted, of an axis that was made ready: the definitions of `planner_rules`, of
-- the structs here. Assumes nothing.
use Rattle.std.specs.Prelude.{◌≡◌, List, ℕ}
use Rattle.planner_rules.specs.Runs.{Run}
use Rattle.planner_rules.specs.declared.lists.AxisLists.{AxisLists}
use Rattle.planner_rules.specs.declared.planning.Ready.{Ready}
use Rattle.planner_rules.specs.declared.titles.Axis.{Axis}
use Rattle.planner_rules.specs.declared.titles.Axis.TheVariants.{Rows, Columns}
use Rattle.planner_rules.specs.Plan.{AxisInput, Sheet, Sides, AreaLayout, Layout, within, layouts_of, layout}
use Rattle.planner_rules.specs.Plan as call
use Rattle.planner_rules.specs.Asked.{sheet_by}
use Rattle.planner_rules.specs.Steps as step
use Rattle.planner.specs.declared.fitted.FittedAxis.{FittedAxis}
use Rattle.planner.specs.declared.settled.SettledSheet.{SettledSheet}
use Rattle.planner.specs.declared.sheet_area.SheetArea.{SheetArea}

-- what is handed over of a settled sheet, and the content's sides there
abbrev pub sheet_in : SettledSheet → Sheet
sheet_in s = sheet_by s.shared.now s.lists.now

abbrev pub sides_in : SettledSheet → Sides
sides_in s = step.sides_in s.shared.now

-- what its areas come to, and the plan of them
abbrev pub layouts_in : SettledSheet → List AreaLayout
layouts_in s = layouts_of (sides_in s) (sheet_in s) s.areas.now

abbrev pub layout_in : SettledSheet → Layout
layout_in s = layout (sides_in s) (sheet_in s) s.areas.now

-- the rows and the columns of an area
abbrev pub rows_in : SheetArea → AxisInput
rows_in a = call.rows_in (sheet_in a.sheet) a.ready.range

abbrev pub columns_in : SheetArea → AxisInput
columns_in a = call.columns_in (sheet_in a.sheet) a.ready.range

-- its runs at a permille
abbrev pub row_runs : SheetArea → ℕ → List Run
row_runs a p = step.rows_at a.sheet.shared.now (sheet_in a.sheet) a.ready.range p

abbrev pub column_runs : SheetArea → ℕ → List Run
column_runs a p = step.columns_at a.sheet.shared.now (sheet_in a.sheet) a.ready.range p

-- an axis of a body: what was made ready of it, its merges and the slots in it
pub record IsBody (r : Ready) (l : AxisLists) (b : FittedAxis) : Type 0 where
  pub fit_is : b.fit ≡ r.fit
  pub merges_are : (b.merges.firsts.now ≡ l.merges.firsts.now) × (b.merges.lasts.now ≡ l.merges.lasts.now)
  pub slots_are : (b.slots.indexes.now ≡ within r l.slots.indexes.now) × (b.slots.sizes.now ≡ within r l.slots.sizes.now)

-- the body of an area has its rows and its columns
abbrev pub BodyOf : Axis → SheetArea → FittedAxis → Type 0
BodyOf Rows a = IsBody a.ready.rows a.sheet.lists.now.rows
BodyOf Columns a = IsBody a.ready.columns a.sheet.lists.now.columns
