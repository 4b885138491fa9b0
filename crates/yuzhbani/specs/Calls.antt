-- What the exported calls answer and write. Assumes nothing.
use Rattle.std.specs.Prelude.{◌≡◌, List, [], ◌∷◌, ℕ, length}
use Rattle.units.specs.Outcome.{Outcome, given, refused, and_then}
use Rattle.planner_rules.specs.declared.pages.Page.{Page}
use Rattle.planner_rules.specs.Lent.{flat}
use Rattle.planner_rules.specs.Partition.{lent}
use Rattle.planner_rules.specs.declared.lists.SheetLists.{SheetLists}
use Rattle.planner_rules.specs.declared.planning.RunCounts.{RunCounts}
use Rattle.job_report.specs.declared.blocks.Block.{Block}
use Rattle.planner_rules.specs.Asked.{sheet_with}
use Rattle.planner_rules.specs.Plan.{Sheet, Layout, AreaLayout, rows_planned, columns_planned, rows_written, columns_written}
use Rattle.job_report.specs.Blocks.{block_of, lines_lent}
use Rattle.yuzhbani_answers.specs.Numbers.{plan_numbers, told}
use Rattle.yuzhbani_answers.specs.Answers.{answer_to}
use Rattle.yuzhbani_request.specs.Request.{settings_from, row_title_from, column_title_from}

-- ---- a plan

-- an array that is lent for the numbers of a plan: these, or, where the call is refused, what stood there
abbrev pub plan_in : Outcome Layout → List ℕ → List ℕ
plan_in (given l) old = plan_numbers l.plan
plan_in (refused n) old = old

-- the answer r of a call that plans or counts, and its array of numbers, which held `old`
pub record CountHanded (o : Outcome Layout) (r : ℕ) (old numbers : List ℕ) : Type 0 where
  pub answer : r ≡ answer_to o
  pub numbers_are : numbers ≡ plan_in o old
  -- the other calls, which are handed r and these numbers, speak of the plan that was planned
  pub stands : told r numbers ≡ and_then o (λ (l : Layout). given l.plan)

-- the same of a call that plans, and the lent lists of both axes, which were rows₀ and columns₀
pub record PlanHanded (o : Outcome Layout) (r : ℕ) (old numbers : List ℕ) (rows₀ columns₀ rows columns : List ℕ) : Type 0 where
  pub counted : CountHanded o r old numbers
  pub rows_are : rows ≡ lent o (flat (rows_planned o)) rows₀
  pub columns_are : columns ≡ lent o (flat (columns_planned o)) columns₀

-- ---- an area, and a block

-- an array that is lent for two numbers of what is given: these, or, where the call is refused, what stood there
abbrev pub pair_in : {A : Type 0} → (A → ℕ) → (A → ℕ) → Outcome A → List ℕ → List ℕ
pair_in f g (given a) old = f a ∷ g a ∷ []
pair_in f g (refused n) old = old

-- the answer r of a call that writes an area; how many runs of rows and of columns, in an array that held counts₀; and the lent lists, which were
-- rows₀ and columns₀
pub record AreaHanded (o : Outcome AreaLayout) (r : ℕ) (counts₀ counts rows₀ columns₀ rows columns : List ℕ) : Type 0 where
  pub answer : r ≡ answer_to o
  pub counts_are : counts ≡ pair_in (λ (l : AreaLayout). length l.rows) (λ (l : AreaLayout). length l.columns) o counts₀
  pub rows_are : rows ≡ lent o (flat (rows_written o)) rows₀
  pub columns_are : columns ≡ lent o (flat (columns_written o)) columns₀

-- the answer r of a block call from the number n on that may hold these pages; how many pages and bytes it has, in an array that held block₀; and
-- its bytes, which were out₀
pub record BlockHanded (o : Outcome (List Page)) (n r : ℕ) (block₀ out₀ block out : List ℕ) : Type 0 where
  pub answer : r ≡ answer_to o
  pub block_is : block ≡ pair_in (λ (pages : List Page). (block_of n pages).pages) (λ (pages : List Page). (block_of n pages).bytes) o block₀
  pub out_is : out ≡ lines_lent n o out₀

-- ---- for the private functions

-- the numbers of what was written, and of a block
abbrev pub count_numbers : RunCounts → List ℕ
count_numbers n = n.rows ∷ n.columns ∷ []

abbrev pub block_numbers : Block → List ℕ
block_numbers b = b.pages ∷ b.bytes ∷ []

-- the sheet, by what numbers ask and by lists
abbrev pub sheet_in : List ℕ → SheetLists → Sheet
sheet_in ns l = sheet_with (settings_from ns) (row_title_from ns) (column_title_from ns) l
