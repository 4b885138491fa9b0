-- 12 refuses, and else the plan is that of the areas.
use Rattle.std.proofs.Common.{◌∙◌, arith}
use Rattle.planner_rules.specs.Plan.{layout}
use Rattle.planner_rules.specs.Steps.{sides_in}
use Rattle.planner_rules.proofs.PlanLaws.{refuses_count, answers_count, limit_refused, limit_given, plan_value}
use Rattle.planner.proofs.settled.SettledSheet.counted_plan.Goals as goal

pub returns-then-counted-self : goal.returns-then-counted-self
returns-then-counted-self c =
    let a = c.args in
    refuses_count _ 12
    (limit_refused (sides_in a.self.now.shared.now) _ a.self.now.areas.now _ c.count_areas-counted.ensures c.if-counted-self.true)

pub returns : goal.returns
returns c =
    let a = c.args in
    let gs = a.self.now.areas.now in
    answers_count _ (layout (sides_in a.self.now.shared.now) _ gs) _
    (limit_given (sides_in a.self.now.shared.now) _ gs _ c.count_areas-counted.ensures (omega (arith, c.if-counted-self.false)))
    (c.plan_of.ensures ∙ plan_value a.self.now.shared.now _ a.self.now.settled gs _ c.count_areas-counted.ensures)
