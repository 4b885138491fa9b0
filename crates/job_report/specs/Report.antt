-- All that program `plan` prints for a plan: document 01, section "Jobs", and document 02, T-02. Assumes nothing.
use Rattle.std.specs.Prelude.{cond, List, [], ◌∷◌, ◌++◌, ℕ, ◌+◌, ltb}
use Rattle.units.specs.Outcome.{given}
use Rattle.planner_rules.specs.declared.pages.AreaPlan.{AreaPlan}
use Rattle.planner_rules.specs.declared.pages.PageOrder.{PageOrder}
use Rattle.planner_rules.specs.declared.pages.Plan.{Plan}
use Rattle.planner_rules.specs.Areas.{plans_in}
use Rattle.planner_rules.specs.Pages.{area_pages, pages_in}
use Rattle.job_report.specs.Lines.{area_line, head_lines}
use Rattle.job_report.specs.Blocks.{lines_from}

-- "before the pages of each later area": the area with the number k, from 0, that came to a
abbrev pub line_before : ℕ → AreaPlan → List ℕ
line_before k a = cond (ltb 0 k) (area_line (k + 1) a.permille) []

-- the lines of areas and of their pages, "page numbers run on": of the areas from k on, by page numbers from n on; the lists of the area k hold
-- its runs at the front
unfoldable pub areas_lines : PageOrder → (ℕ → List ℕ) → (ℕ → List ℕ) → ℕ → ℕ → List AreaPlan → List ℕ
unfolding area_pages lines_from
areas_lines order rows columns k n [] = []
areas_lines order rows columns k n (a ∷ areas) =
    line_before k a ++ (lines_from n (area_pages order a (rows k) (columns k)) ++ areas_lines order rows columns (k + 1) (n + pages_in a) areas)

-- the first lines, then those of the areas
unfoldable pub report_lines : Plan → (ℕ → List ℕ) → (ℕ → List ℕ) → List ℕ
unfolding head_lines areas_lines
report_lines p rows columns = head_lines (given p) ++ areas_lines p.order rows columns 0 1 (plans_in p.areas)
