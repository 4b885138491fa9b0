-- `plan::printed::Counted::spot` meets its contract: the area of a page is one of the plan's.
use Rattle.std.proofs.Common.{◌≡◌, ◌<◌, IfOk, length, sym, ℕ, Option, Some, None}
use Rattle.std.specs.Option.{ok_or}
use Rattle.planner_rules.specs.declared.pages.Plan.{Plan}
use Rattle.planner_rules.specs.declared.pages.Spot.{Spot}
use Rattle.planner_rules.specs.Areas.{plans_in}
use Rattle.planner_rules.specs.Pages.{spot_of}
use Rattle.plan.specs.declared.failure.Failure.{Failure}
use Rattle.plan.specs.declared.failure.Failure.TheVariants.{Refused}
use Rattle.job_report.proofs.SpotLaws.{spot_within_plan}
use Rattle.plan.proofs.printed.Counted.spot.Goals as goal

-- where a number has a page, its area is one of the plan's
within : (p : Plan) (n : ℕ) (f : Option Spot) → spot_of p n ≡ f → (e : Failure) → IfOk (ok_or f e) (λ spot. spot.area < length (plans_in p.areas))
within p n None _ _ = tt
within p n (Some s) is _ = spot_within_plan p n s is

pub returns : goal.returns
returns c = rw (sym c.ok_or.ensures.value) at (within c.args.self.now.plan c.args.number c.page_spot.result (sym c.page_spot.ensures) Refused)
