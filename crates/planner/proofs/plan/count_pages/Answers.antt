-- A no refuses, and else the areas are counted.
use Rattle.std.proofs.Common.{◌≡◌, Err, ap, ◌∙◌, rules}
use Rattle.units.specs.Outcome.{Outcome, given, and_then}
use Rattle.planner_rules.specs.Plan.{Layout}
use Rattle.planner_rules.proofs.PlanLaws.{refuses_count, no_count, then_count}
use Rattle.planner.proofs.plan.count_pages.Goals as goal

pub returns-in_err-shared : goal.returns-in_err-shared
returns-in_err-shared c =
    let e : c.from_residual.result ≡ Err c.in_err-shared.field-0.0 = search rules in
    rw e (refuses_count _ _ (no_count _ c.args.request.now.areas.now _ c.in_err-shared.ensures))

pub returns : goal.returns
returns c =
    let a = c.args in
    let by = c.in_ok-shared.ensures in
    c.counted_plan.ensures
    ∙ ap (λ (o : Outcome Layout). and_then o (λ (l : Layout). given l.plan)) (then_count c.in_ok-shared.shared _ a.request.now.areas.now by)
