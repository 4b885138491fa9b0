-- The runs of the spot's area, and of those before it, are among those of all areas.
use Rattle.std.proofs.Common.{arith}
use Rattle.planner_rules.specs.declared.pages.AreaPlan.{AreaPlan}
use Rattle.planner_rules.specs.Areas.{plans_in}
use Rattle.planner_rules.proofs.AreaPages.{over_within}
use Rattle.planner_pages.proofs.spot_page.Goals as goal

pub runs_of-passed-requires-clause-rows_fit : goal.runs_of-passed-requires-clause-rows_fit
runs_of-passed-requires-clause-rows_fit c =
    let all = plans_in c.args.plan.now.areas in
    rw c.as_slice-areas.ensures (omega (arith, over_within (λ (a : AreaPlan). a.row_runs) all c.args.spot.area c.requires.stands.0))

pub runs_of-passed-requires-clause-columns_fit : goal.runs_of-passed-requires-clause-columns_fit
runs_of-passed-requires-clause-columns_fit c =
    let all = plans_in c.args.plan.now.areas in
    rw c.as_slice-areas.ensures (omega (arith, over_within (λ (a : AreaPlan). a.column_runs) all c.args.spot.area c.requires.stands.0))

pub page_at-requires-clause-row_runs_bound : goal.page_at-requires-clause-row_runs_bound
page_at-requires-clause-row_runs_bound c =
    let all = plans_in c.args.plan.now.areas in
    let runs = rw c.as_slice-areas.ensures at c.runs_of-passed.ensures.0 in
    rw c.as_slice-areas.ensures (omega (arith, runs, over_within (λ (a : AreaPlan). a.row_runs) all c.args.spot.area c.requires.stands.0))

pub page_at-requires-clause-column_runs_bound : goal.page_at-requires-clause-column_runs_bound
page_at-requires-clause-column_runs_bound c =
    let all = plans_in c.args.plan.now.areas in
    let runs = rw c.as_slice-areas.ensures at c.runs_of-passed.ensures.1 in
    rw c.as_slice-areas.ensures (omega (arith, runs, over_within (λ (a : AreaPlan). a.column_runs) all c.args.spot.area c.requires.stands.0))
