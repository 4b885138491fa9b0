-- A no refuses, and else the area is written.
use Rattle.std.proofs.Common.{◌≡◌, Err, rules}
use Rattle.planner_rules.proofs.PlanLaws.{refuses_area, relay_area, no_area, then_area}
use Rattle.planner.proofs.plan.write_area.Goals as goal

pub returns-in_err-shared : goal.returns-in_err-shared
returns-in_err-shared c =
    let a = c.args in
    let e : c.from_residual.result ≡ Err c.in_err-shared.field-0.0 = search rules in
    rw e (refuses_area _ _ a.row_runs.now a.column_runs.now
    (no_area _ a.request.now.areas.now _ c.in_err-shared.ensures a.number a.permille a.row_runs.now a.column_runs.now))

pub returns : goal.returns
returns c =
    let a = c.args in
    let by = c.in_ok-shared.ensures in
    relay_area _ _ _ _ _ _ _ (then_area c.in_ok-shared.shared _ a.request.now.areas.now by a.number a.permille a.row_runs.now a.column_runs.now)
    c.write_numbered.ensures
