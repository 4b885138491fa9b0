-- The plan of a job's bytes: document 01, sections "Jobs" and "Questions in order", and document 02, T-02. Assumes nothing.
use Rattle.std.specs.Prelude.{◌≡◌, true, List, ℕ, suc, ◌*◌, ◌<◌, ◌≤◌, length, take, Result}
use Rattle.units.specs.Outcome.{Outcome, and_then}
use Rattle.planner_rules.specs.declared.lists.AxisLists.{AxisLists}
use Rattle.planner_rules.specs.declared.lists.SheetLists.{SheetLists}
use Rattle.planner_rules.specs.declared.planning.PrintRange.{PrintRange}
use Rattle.planner_rules.specs.Plan.{Sheet, Layout, AreaLayout, Planned, Counted, AreaWrote, sheet_of, planned, counted, area_written}
use Rattle.planner_rules.specs.Demand.{CoversPairs, FewestPlan, LargestPlan}
use Rattle.planner_rules.specs.declared.pages.Plan as pages
use Rattle.planner_rules.specs.declared.planning.RunCounts.{RunCounts}
use Rattle.job_records.specs.Areas.{ranges_in}
use Rattle.job_records.specs.Records.{RW, CL, MR, BR, BC, records, values}
use Rattle.job_questions.specs.Verdict.{verdict, question1, items_of}
use Rattle.job_reader.specs.declared.lists.LentAxis.{LentAxis}
use Rattle.job_reader.specs.Reading.{Lists, lists, even_lists, room_in, fit_in}
use Rattle.job.specs.declared.wanted.AreaRuns.{AreaRuns}
use Rattle.job.specs.declared.wanted.WholePlan.{WholePlan}
use Rattle.units.specs.declared.refusal.Refusal.{Refusal}
use Rattle.units.specs.Refusals.{outcome}
use Rattle.job_settings.specs.Meaning.{settings_for, areas_for}
use Rattle.job_reader.specs.Settings.{settings_of}
use Rattle.job_questions.specs.declared.Items.{Items}
use Rattle.job_settings.specs.declared.JobSettings.{JobSettings}

-- ---- what was read, as the planner takes it

-- the ten lists of a sheet
abbrev pub lists_in : SheetLists → Lists
lists_in l =
    lists l.rows.slots.indexes.now l.rows.slots.sizes.now l.columns.slots.indexes.now l.columns.slots.sizes.now
    l.rows.merges.firsts.now l.columns.merges.firsts.now l.rows.merges.lasts.now l.columns.merges.lasts.now
    l.rows.breaks.now l.columns.breaks.now

-- settings and ten lists
abbrev pub sheet_read : JobSettings → Lists → Sheet
sheet_read j l =
    sheet_of (settings_for j) j.row_title j.column_title l.row_indexes l.row_sizes l.column_indexes l.column_sizes
    l.merge_first_rows l.merge_first_columns l.merge_last_rows l.merge_last_columns l.row_breaks l.column_breaks

-- ---- a job, by its bytes

-- "RW u32, i64", "CL u16, i64", "MR as AR", "BR u32", "BC u16"
abbrev pub job_lists : List ℕ → Lists
job_lists s =
    let rs = records s in
    lists (values RW 0 rs) (values RW 1 rs) (values CL 0 rs) (values CL 1 rs) (values MR 0 rs) (values MR 1 rs) (values MR 2 rs) (values MR 3 rs)
    (values BR 0 rs) (values BC 0 rs)

-- all that is handed to the planner beside the areas
abbrev pub job_sheet : List ℕ → Sheet
job_sheet s = sheet_read (settings_of (records s)) (job_lists s)

-- "AR may stand up to eight times": the areas, in job order
abbrev pub job_areas : List ℕ → List PrintRange
job_areas s = areas_for (ranges_in (settings_of (records s)).areas)

-- ---- the calls

-- 1 to 9 and 15 as they are put to the bytes, then the plan of what was read; the lent lists are that of the row runs and that of the column runs
unfoldable pub plan_job : List ℕ → List ℕ → List ℕ → Outcome Layout
plan_job s rows columns = and_then (verdict s) (λ (items : Items). planned (job_sheet s) (job_areas s) rows columns)

-- the same plan, of a call that was lent no list: "program `plan` counts all pages first"
unfoldable pub count_job : List ℕ → Outcome Layout
count_job s = and_then (verdict s) (λ (items : Items). counted (job_sheet s) (job_areas s))

-- the runs of the area with a number from 1 at a permille: "then plans area by area in the same lists"
unfoldable pub write_job_area : List ℕ → ℕ → ℕ → List ℕ → List ℕ → Outcome AreaLayout
write_job_area s n p rows columns = and_then (verdict s) (λ (items : Items). area_written (job_sheet s) (job_areas s) n p rows columns)

-- ---- for the private functions

-- the four clauses: the answer r and the run lists, which were rows₀ and columns₀, where the outcome is o
abbrev pub PlanTold : Outcome Layout → Sheet → List PrintRange → Outcome pages.Plan → List ℕ → List ℕ → List ℕ → List ℕ → Type 0
PlanTold o s areas r rows₀ columns₀ rows columns =
    Planned o r rows₀ columns₀ rows columns
    × (CoversPairs r s areas rows columns × (FewestPlan r s areas rows columns × LargestPlan r s areas))

-- clauses of an answer to a job whose questions come to an outcome
abbrev pub Telling : Type 0 → Type 1
Telling A = Outcome Items → Sheet → List PrintRange → Result A Refusal → Type 0

-- of its plan, by the lists that it was wanted in
abbrev pub plan_told : WholePlan → WholePlan → Telling pages.Plan
plan_told old new v s areas r =
    PlanTold (and_then v (λ (items : Items). planned s areas old.row_runs.now old.column_runs.now)) s areas (outcome r)
    old.row_runs.now old.column_runs.now new.row_runs.now new.column_runs.now
    × ((new.row_runs.ghost_name ≡ old.row_runs.ghost_name) × (new.column_runs.ghost_name ≡ old.column_runs.ghost_name))

-- of how many pages it has
abbrev pub count_told : Telling pages.Plan
count_told v s areas r = Counted (and_then v (λ (items : Items). counted s areas)) (outcome r)

-- of the runs of an area, by its number, its permille and the lists that they were wanted in
abbrev pub area_told : AreaRuns → AreaRuns → Telling RunCounts
area_told old new v s areas r =
    AreaWrote (and_then v (λ (items : Items). area_written s areas old.number old.permille old.row_runs.now old.column_runs.now)) (outcome r)
    old.row_runs.now old.column_runs.now new.row_runs.now new.column_runs.now
    × ((new.row_runs.ghost_name ≡ old.row_runs.ghost_name) × (new.column_runs.ghost_name ≡ old.column_runs.ghost_name))

-- the fronts of ten lists, as long as so many items say
abbrev pub fronts : Items → Lists → Lists
fronts n l =
    lists (take n.rows l.row_indexes) (take n.rows l.row_sizes) (take n.columns l.column_indexes) (take n.columns l.column_sizes)
    (take n.merges l.merge_first_rows) (take n.merges l.merge_first_columns) (take n.merges l.merge_last_rows)
    (take n.merges l.merge_last_columns) (take n.row_breaks l.row_breaks) (take n.column_breaks l.column_breaks)

-- the lists of an axis are as long as so many slots, merges and breaks
pub record AxisLong (slots merges breaks : ℕ) (l : LentAxis) : Type 0 where
  pub indexes_long : slots ≤ length l.slots.indexes.now
  pub sizes_long : slots ≤ length l.slots.sizes.now
  pub firsts_long : merges ≤ length l.merges.firsts.now
  pub lasts_long : merges ≤ length l.merges.lasts.now
  pub breaks_long : breaks ≤ length l.breaks.now

-- `fronts` are the fronts of these lists
pub record AxisFronts (slots merges breaks : ℕ) (l : LentAxis) (fronts : AxisLists) : Type 0 where
  pub indexes_are : fronts.slots.indexes.now ≡ take slots l.slots.indexes.now
  pub sizes_are : fronts.slots.sizes.now ≡ take slots l.slots.sizes.now
  pub firsts_are : fronts.merges.firsts.now ≡ take merges l.merges.firsts.now
  pub lasts_are : fronts.merges.lasts.now ≡ take merges l.merges.lasts.now
  pub breaks_are : fronts.breaks.now ≡ take breaks l.breaks.now

-- the lists are as long as so many items say
pub record Long (n : Items) (l : Lists) : Type 0 where
  pub row_indexes_long : n.rows ≤ length l.row_indexes
  pub row_sizes_long : n.rows ≤ length l.row_sizes
  pub column_indexes_long : n.columns ≤ length l.column_indexes
  pub column_sizes_long : n.columns ≤ length l.column_sizes
  pub merge_first_rows_long : n.merges ≤ length l.merge_first_rows
  pub merge_first_columns_long : n.merges ≤ length l.merge_first_columns
  pub merge_last_rows_long : n.merges ≤ length l.merge_last_rows
  pub merge_last_columns_long : n.merges ≤ length l.merge_last_columns
  pub row_breaks_long : n.row_breaks ≤ length l.row_breaks
  pub column_breaks_long : n.column_breaks ≤ length l.column_breaks

-- room for all that a job's bytes bring where question 1 lets them pass: one item more of a kind has more bytes than those
pub record RoomFor (s : List ℕ) (rows columns row_breaks column_breaks : ℕ) : Type 0 where
  pub rows_held : question1 s ≡ true → length s < 14 * suc rows
  pub columns_held : question1 s ≡ true → length s < 12 * suc columns
  pub row_breaks_held : question1 s ≡ true → length s < 6 * suc row_breaks
  pub column_breaks_held : question1 s ≡ true → length s < 4 * suc column_breaks
  pub few : (rows ≤ 60000) × (columns ≤ 60000) × (row_breaks ≤ 60000) × (column_breaks ≤ 60000)

-- the lists hold the items of every job that is read
pub record Holds (s : List ℕ) (l : Lists) : Type 0 where
  pub even : even_lists l ≡ true
  pub room : question1 s ≡ true → fit_in (items_of (records s)) (room_in l) ≡ true

-- clauses of the answer to a job's bytes
abbrev pub JobTold : {A : Type 0} → Telling A → List ℕ → Result A Refusal → Type 0
JobTold told s r = told (verdict s) (job_sheet s) (job_areas s) r
