-- A refusal of a job's questions meets the clauses of each answer: nothing is found in it, and nothing was written. Assumes nothing.
use mathlib.Core.Path.{◌≡◌, refl}
use mathlib.Core.List.{List}
use Prim.Native.Nat.{ℕ}
use Rattle.units.specs.Outcome.{Outcome, given, refused}
use Rattle.units.specs.declared.refusal.Refusal.{Refusal}
use Rattle.units.specs.Refusals.{number_of}
use Rattle.planner_rules.specs.declared.pages.Plan.{Plan}
use Rattle.planner_rules.specs.declared.planning.PrintRange.{PrintRange}
use Rattle.planner_rules.specs.Plan.{Sheet, Layout}
use Rattle.planner_rules.proofs.PlanLaws.{refuses_plan}
use Rattle.std.specs.Prelude.{Err}
use Rattle.job.specs.declared.wanted.AreaRuns.{AreaRuns}
use Rattle.job.specs.declared.wanted.WholePlan.{WholePlan}
use Rattle.job.specs.PlanJob.{PlanTold, plan_told, count_told, area_told}

no_plan : {X : Type 0} (n : ℕ) (plan : Plan) → refused n ≡ given plan → X
no_plan n plan e = absurd cc

-- a refusal: nothing is found in it, and nothing was written
pub refused_plan : (o : Outcome Layout) (s : Sheet) (areas : List PrintRange) (n : ℕ) (rows columns : List ℕ) → o ≡ refused n
    → PlanTold o s areas (refused n) rows columns rows columns
refused_plan o s areas n rows columns e = (
  refuses_plan o n rows columns e,
  (
    record { covered = λ plan f. no_plan n plan f },
    (
      record { on_rows = λ plan f. no_plan n plan f; on_columns = λ plan f. no_plan n plan f },
      record { largest = λ plan f. no_plan n plan f; noted = λ plan f. no_plan n plan f },
    ),
  ),
)

pub plan_refused : (wanted : WholePlan) (x : Refusal) (s : Sheet) (areas : List PrintRange)
    → plan_told wanted wanted (refused (number_of x)) s areas (Err x)
plan_refused wanted x s areas =
    (refused_plan (refused (number_of x)) s areas (number_of x) wanted.row_runs.now wanted.column_runs.now refl, (refl, refl))

pub count_refused : (x : Refusal) (s : Sheet) (areas : List PrintRange) → count_told (refused (number_of x)) s areas (Err x)
count_refused x s areas = refl

pub area_refused : (wanted : AreaRuns) (x : Refusal) (s : Sheet) (areas : List PrintRange)
    → area_told wanted wanted (refused (number_of x)) s areas (Err x)
area_refused wanted x s areas = (record { answer = refl; rows_are = refl; columns_are = refl }, (refl, refl))
