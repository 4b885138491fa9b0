-- The walk ends at the page.
use Rattle.std.proofs.Common.{◌≡◌, sym, ap, ◌∙◌, ℕ, ◌<◌, List, Result, Ok, Err, arith}
use Rattle.std.specs.Result.{IsOk}
use Rattle.planner_rules.specs.declared.pages.AreaPlan.{AreaPlan}
use Rattle.planner_rules.specs.declared.pages.Spot.{Spot}
use Rattle.units.specs.Outcome.{given}
use Rattle.planner_rules.specs.Areas.{plans_in, over_areas}
use Rattle.planner_rules.specs.Pages.{pages_in, walk_from}
use Rattle.planner_rules.proofs.AreaPages.{walk_ends, walk_past, walk_page}
use Rattle.planner_pages.proofs.page_after.Goals as goal

there : (before : ℕ) (areas : List AreaPlan) → before < over_areas pages_in areas → (r : Result Spot ℕ) → r ≡ walk_from 0 before areas → IsOk r
there before areas h (Ok s) e = search
there before areas h (Err n) e = absurd (omega (arith, (walk_past before areas n (sym e)).passed))

pub unwrap-spot-requires : goal.unwrap-spot-requires
unwrap-spot-requires c =
    there c.args.before (plans_in c.args.plan.now.areas) c.requires.before_bound c.walk.result (rw c.as_slice.ensures at c.walk.ensures)

pub spot_page-requires-clause-stands : goal.spot_page-requires-clause-stands
spot_page-requires-clause-stands c =
    let end = rw c.as_slice.ensures at c.walk.ensures in
    (walk_ends c.args.before (plans_in c.args.plan.now.areas) c.unwrap-spot.result (sym end ∙ c.unwrap-spot.ensures)).stands

pub returns : goal.returns
returns c =
    let a = c.args in
    let end = rw c.as_slice.ensures at c.walk.ensures in
    walk_page a.plan.now.order (plans_in a.plan.now.areas) a.runs.rows.now a.runs.columns.now a.before c.unwrap-spot.result (sym end ∙ c.unwrap-spot.ensures)
    ∙ ap given (sym c.spot_page.ensures)
