-- The walk ends at the page, or past the areas.
use Rattle.std.proofs.Common.{◌≡◌, ◌∙◌, ℕ, sym, rules, arith, None, Result, Ok, Err, ◌≤◌, ◌-◌}
use Rattle.std.specs.Result.{result_ok}
use Rattle.planner_rules.specs.declared.pages.Plan.{Plan}
use Rattle.planner_rules.specs.declared.pages.Spot.{Spot}
use Rattle.planner_rules.specs.Areas.{plans_in}
use Rattle.planner_rules.specs.Pages.{spot_of, walk_from}
use Rattle.planner_rules.proofs.PagesCode.{spot_zero, spot_past, spot_found, spot_missing}
use Rattle.planner_pages.proofs.page_spot.Goals as goal

module _ (p : Plan) (n : ℕ) (low : 1 ≤ n) (high : n ≤ p.pages) where
  spot_is : (r : Result Spot ℕ) → r ≡ walk_from 0 (n - 1) (plans_in p.areas) → result_ok r ≡ spot_of p n
  spot_is (Ok s) e = spot_found p n low high s (sym e)
  spot_is (Err m) e = spot_missing p n low high m (sym e)

pub returns-in_err-before : goal.returns-in_err-before
returns-in_err-before c =
    let e : c.from_residual.result ≡ None = search rules in
    e ∙ spot_zero c.args.plan.now c.args.number (grind arith)

pub returns-then-before-plan : goal.returns-then-before-plan
returns-then-before-plan c =
    let e : c.in_ok-before.before ≡ c.args.number - 1 = grind arith in
    spot_past c.args.plan.now c.args.number (omega arith)

pub returns : goal.returns
returns c =
    let low : 1 ≤ c.args.number = grind arith in
    let e : c.in_ok-before.before ≡ c.args.number - 1 = grind arith in
    let end = rw (c.as_slice.ensures, e) at c.walk.ensures in
    c.ok.ensures.value ∙ spot_is c.args.plan.now c.args.number low (omega arith) c.walk.result end
