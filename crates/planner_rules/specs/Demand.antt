-- Demand 3 of the plan call, area by area (document 02, T-02): what is found in a plan and in the run lists after the call, and what was done
-- to choose each fit scale. Nothing here says how runs are found or how a permille is searched. Assumes nothing.
use Rattle.std.specs.Prelude.{◌≡◌, true, List, [], ℕ, ◌+◌, ◌-◌, ◌≤◌, ◌<◌, ℤ, pos, length, take}
use Rattle.units.specs.Outcome.{Outcome, given}
use Rattle.units.specs.Units.{unscaled_capacity}
use Rattle.planner_rules.specs.declared.titles.Title.TheVariants.{Absent}
use Rattle.planner_rules.specs.declared.pages.Page.{Page}
use Rattle.planner_rules.specs.declared.pages.AreaPlan.{AreaPlan}
use Rattle.planner_rules.specs.declared.pages.Plan.{Plan}
use Rattle.planner_rules.specs.declared.planning.PrintRange.{PrintRange}
use Rattle.planner_rules.specs.Scale.{units}
use Rattle.planner_rules.specs.Lent.{runs_in, firsts, lasts, sizes}
use Rattle.planner_rules.specs.Areas.{plans_in, over_areas}
use Rattle.planner_rules.specs.Pages.{numbered, pages_in, row_runs, column_runs, after_runs, page_numbered}
use Rattle.planner_rules.specs.Plan.{AxisInput, Sheet, Sides, rows_in, columns_in, title_of, start_of, body_part, content_sides}
use Rattle.planner_rules.specs.Division.{◌∈◌, kept_breaks, FewestRuns}
use Rattle.planner_rules.specs.Fitting.{Reaches, Chosen}

-- "a finished plan is one not refused"
abbrev pub Finished : Outcome Plan → Plan → Type 0
Finished r plan = r ≡ given plan

-- ---- areas, by their numbers from 1

-- the area with a number is this range
abbrev pub IsArea : List PrintRange → ℕ → PrintRange → Type 0
IsArea areas n g = numbered areas n ≡ given g

-- what that area came to, and that this is so
pub record CameTo (plan : Plan) (n : ℕ) (This : AreaPlan → Type 0) : Type 0 where
  pub area : AreaPlan
  pub is_it : numbered (plans_in plan.areas) n ≡ given area
  pub so : This area

-- what stands before it in job order
abbrev pub areas_before : Plan → ℕ → List AreaPlan
areas_before plan n = take (n - 1) (plans_in plan.areas)

-- how many pages: "page numbers run on"
abbrev pub pages_before : Plan → ℕ → ℕ
pages_before plan n = over_areas pages_in (areas_before plan n)

-- the lists from the area's runs on: "Run lists hold the areas' runs in job order"
abbrev pub rows_from : Plan → ℕ → List ℕ → List ℕ
rows_from plan n rows = after_runs (row_runs (areas_before plan n)) rows

abbrev pub columns_from : Plan → ℕ → List ℕ → List ℕ
columns_from plan n columns = after_runs (column_runs (areas_before plan n)) columns

-- a page's number is one of "its own pages alone"
pub record IsOwn (plan : Plan) (n : ℕ) (a : AreaPlan) (number : ℕ) : Type 0 where
  pub past_those_before : pages_before plan n < number
  pub to_its_last : number ≤ pages_before plan n + pages_in a

-- ---- covered

-- a body row or a body column, by its index: "Where a title, as widened, covers the range's first index, the body starts after the title's
-- last; otherwise at the range's first. The body is the measured slots from there to the range's last."
pub record IsBody (a : AxisInput) (index : ℕ) : Type 0 where
  pub measured : index ∈ a.indexes
  pub from_start : start_of a ≤ index
  pub to_last : index ≤ a.last

-- "A pair is on a page when its row and its column lie from first to last of the page's two runs."
pub record OnPage (page : Page) (row column : ℕ) : Type 0 where
  pub row_from_first : page.rows.first ≤ row
  pub row_to_last : row ≤ page.rows.last
  pub column_from_first : page.columns.first ≤ column
  pub column_to_last : column ≤ page.columns.last

-- "on exactly one page" of the area's own: a page of the plan, "by its number, from 1", and no other of the area's own
pub record OnOnePage (plan : Plan) (n : ℕ) (rows columns : List ℕ) (row column : ℕ) (a : AreaPlan) : Type 0 where
  pub number : ℕ
  pub page : Page
  pub own : IsOwn plan n a number
  pub to_count : number ≤ plan.pages
  pub has_number : page_numbered plan rows columns number ≡ given page
  pub on_it : OnPage page row column
  pub on_no_other : (m : ℕ) (other : Page) → IsOwn plan n a m → page_numbered plan rows columns m ≡ given other → OnPage other row column → m ≡ number

-- "Found in every finished plan, whatever its merges, titles and breaks: each pair of a body row and a body column on exactly one page", of each
-- area "for that area's body and its own pages alone; so a pair in the bodies of two areas is on one page of each"
pub record CoversPairs (r : Outcome Plan) (s : Sheet) (areas : List PrintRange) (rows columns : List ℕ) : Type 0 where
  pub covered : (plan : Plan) → Finished r plan → (n : ℕ) (g : PrintRange) → IsArea areas n g
      → (row column : ℕ) → IsBody (rows_in s g) row → IsBody (columns_in s g) column → CameTo plan n (OnOnePage plan n rows columns row column)

-- ---- fewest

-- "where no merges or titles exist", of one axis: no title, or one that is "ignored with a note", and no merges
pub record Bare (a : AxisInput) : Type 0 where
  pub no_title : (title_of a).title ≡ Absent
  pub no_merge_firsts : a.merge_firsts ≡ []
  pub no_merge_lasts : a.merge_lasts ≡ []

-- the body's indexes, and its sizes
abbrev pub body_indexes : AxisInput → List ℕ
body_indexes a = body_part a a.indexes

-- the sizes of the body
abbrev pub body_sizes : AxisInput → List ℕ
body_sizes a = body_part a a.sizes

-- "Capacity is that at the plan's permille": on a page with this content side, beside no titles
abbrev pub capacity_beside : ℤ → AxisInput → ℕ → ℕ
capacity_beside side a permille = units (unscaled_capacity side permille (pos 0) (pos a.headings))

-- an axis "with a body: the plan's runs are a division that cuts at every kept manual break and keeps runs of two or more slots within
-- capacity, and no division that does both has fewer runs"; the plan's runs are the first n of the list
abbrev pub FewestOnAxis : ℤ → ℕ → AxisInput → ℕ → List ℕ → Type 0
FewestOnAxis side permille a n list =
    0 < length (body_indexes a)
    → FewestRuns (capacity_beside side a permille) (kept_breaks (body_indexes a) 0 a.breaks) (body_indexes a) (body_sizes a)
    (firsts (runs_in n list)) (lasts (runs_in n list)) (sizes (runs_in n list))

-- "Found where no merges or titles exist, on each axis": of each axis of each area for itself, whatever the other has
pub record FewestPlan (r : Outcome Plan) (s : Sheet) (areas : List PrintRange) (rows columns : List ℕ) : Type 0 where
  pub on_rows : (plan : Plan) → Finished r plan → (c : Sides) → content_sides s.settings ≡ given c
      → (n : ℕ) (g : PrintRange) → IsArea areas n g → Bare (rows_in s g)
      → CameTo plan n (λ (a : AreaPlan). FewestOnAxis c.height a.permille (rows_in s g) a.row_runs (rows_from plan n rows))
  pub on_columns : (plan : Plan) → Finished r plan → (c : Sides) → content_sides s.settings ≡ given c
      → (n : ℕ) (g : PrintRange) → IsArea areas n g → Bare (columns_in s g)
      → CameTo plan n (λ (a : AreaPlan). FewestOnAxis c.width a.permille (columns_in s g) a.column_runs (columns_from plan n columns))

-- ---- largest

-- a content side of n units that "exceeds the headings"
pub record Exceeds (side : ℤ) (a : AxisInput) (n : ℕ) : Type 0 where
  pub side_is : side ≡ pos n
  pub above : a.headings < n

-- "each axis has a division that meets its page target and whose runs all fit the page"
abbrev pub EachReaches : AxisInput → AxisInput → ℕ → ℕ → ℕ → Type 0
EachReaches a b height width permille =
    Reaches height a.headings a.target (body_sizes a) permille × Reaches width b.headings b.target (body_sizes b) permille

-- "Done to choose a fit scale there, if both content sides exceed the headings: the largest permille from 100 to 1,000 was taken at which
-- each axis has [such a division]; 'unreachable' was noted, once, exactly if 100 is no such permille, and then 100 was taken." One permille
-- is taken for both axes of an area, so that neither may have merges or a title. "Demand 3, the unreachable note included, holds area by area":
-- the note is of how many areas it was noted.
pub record LargestPlan (r : Outcome Plan) (s : Sheet) (areas : List PrintRange) : Type 0 where
  pub largest : (plan : Plan) → Finished r plan → (c : Sides) → content_sides s.settings ≡ given c
      → (n : ℕ) (g : PrintRange) → IsArea areas n g → Bare (rows_in s g) → Bare (columns_in s g) → s.settings.fit ≡ true
      → (height width : ℕ) → Exceeds c.height (rows_in s g) height → Exceeds c.width (columns_in s g) width
      → CameTo plan n (λ (a : AreaPlan). Chosen (EachReaches (rows_in s g) (columns_in s g) height width) a.permille a.unreachable)
  pub noted : (plan : Plan) → Finished r plan
      → plan.notes.fit_unreachable ≡ over_areas (λ (a : AreaPlan). a.unreachable) (plans_in plan.areas)
