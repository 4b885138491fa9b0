-- What is printed for a job that is counted: the first lines, then each area's line, from the second on, and the lines of its pages, all of them,
-- once and in order; and no area is refused. Assumes nothing.
use mathlib.Core.Path.{◌≡◌}
use mathlib.Core.List.{List, ◌++◌}
use Prim.Native.Nat.{ℕ, ◌+◌, ◌≤◌, ◌<◌}
use lib.ListN.{length}
use Rattle.units.specs.Outcome.{given}
use Rattle.planner_rules.specs.Areas.{plans_in}
use Rattle.planner_rules.specs.Lent.{room_in}
use Rattle.planner_rules.specs.Plan.{Layout}
use Rattle.job.specs.PlanJob.{count_job, write_job_area}
use Rattle.job.proofs.CountedAreas.{Writes}
use Rattle.job.proofs.Refusals.{job_writes, job_pages}
use Rattle.job_report.specs.Lines.{head_lines}
use Rattle.job_report.specs.Report.{report_lines}
use Rattle.job_report.proofs.WholeLaws.{Whole, Printed, printed_all}

module _ (s : List ℕ) (l : Layout) (counted : count_job s ≡ given l) where
  whole : Whole l.plan
  whole = let w = job_pages s l counted in record { pages_are = w.0; each = w.1 }

  -- blocks from page 1 on up to a number past the last, with the area's line before each later area's first; the lists of the area k are
  -- those that its runs were written to
  pub prints : (rows columns : ℕ → List ℕ) (next : ℕ) (bytes : List ℕ) → Printed l.plan rows columns 1 next bytes → l.plan.pages < next
      → head_lines (given l.plan) ++ bytes ≡ report_lines l.plan rows columns
  prints rows columns next bytes b past = printed_all l.plan rows columns whole next bytes b past

  -- lists of 5,000 runs take each area in turn
  pub takes : (k : ℕ) → k < length (plans_in l.plan.areas) → (rows columns : List ℕ) → 5000 ≤ room_in rows → 5000 ≤ room_in columns
      → Writes (λ (p : ℕ). write_job_area s (k + 1) p rows columns) l k
  takes k h rows columns hr hc = job_writes s l counted k h rows columns hr hc
