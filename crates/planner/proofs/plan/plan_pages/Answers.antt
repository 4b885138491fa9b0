-- A no refuses, and else the areas are planned; from that, demand 3.
use Rattle.std.proofs.Common.{◌≡◌, Err, rules}
use Rattle.planner_rules.proofs.Demand.{clauses}
use Rattle.planner_rules.proofs.PlanLaws.{refuses_plan, relay_plan, no_plan, then_plan}
use Rattle.planner.proofs.plan.plan_pages.Goals as goal

pub returns-in_err-shared-clause-planned : goal.returns-in_err-shared-clause-planned
returns-in_err-shared-clause-planned c =
    let a = c.args in
    let e : c.from_residual.result ≡ Err c.in_err-shared.field-0.0 = search rules in
    rw e (refuses_plan _ _ a.row_runs.now a.column_runs.now (no_plan _ a.request.now.areas.now _ c.in_err-shared.ensures a.row_runs.now a.column_runs.now))

pub returns : goal.returns
returns c =
    let a = c.args in
    let by = c.in_ok-shared.ensures in
    let all = clauses _ a.request.now.areas.now a.row_runs.now a.column_runs.now _ _ _
    (relay_plan _ _ _ _ _ _ _ (then_plan c.in_ok-shared.shared _ a.request.now.areas.now by a.row_runs.now a.column_runs.now) c.plan_areas.ensures) in
    record { planned = all.0; covered = all.1.0; fewest = all.1.1.0; largest = all.1.1.1 }
