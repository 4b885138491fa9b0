-- Each turn writes the next page of the plan at its place, and when all are written the list is what is asked for. `told`, what was answered, stands
-- in each goal: a law of it would be cited at more length than it has.
use Rattle.std.proofs.Common.{◌≡◌, ap, ◌∙◌, length, arith}
use Rattle.planner_rules.specs.Pages.{list_pages, pages_of}
use Rattle.planner_rules.proofs.ListLaws.{count_in, count_room, page_asked, page_next, pages_lent_lem, filled_more}
use Rattle.planner_pages.proofs.list_pages.Goals as goal

pub page_after-requires-clause-rows_fit : goal.page_after-requires-clause-rows_fit
page_after-requires-clause-rows_fit c =
    let a = c.args in
    let told = rw c.in_ok-count.was at c.listing.ensures in
    (page_asked a.plan.now a.runs.rows.now a.runs.columns.now (length a.pages.now) c.loop-i.i (omega (arith, ap count_in told))).0

pub page_after-requires-clause-columns_fit : goal.page_after-requires-clause-columns_fit
page_after-requires-clause-columns_fit c =
    let a = c.args in
    let told = rw c.in_ok-count.was at c.listing.ensures in
    (page_asked a.plan.now a.runs.rows.now a.runs.columns.now (length a.pages.now) c.loop-i.i (omega (arith, ap count_in told))).1.0

pub page_after-requires-clause-before_bound : goal.page_after-requires-clause-before_bound
page_after-requires-clause-before_bound c =
    let a = c.args in
    let told = rw c.in_ok-count.was at c.listing.ensures in
    (page_asked a.plan.now a.runs.rows.now a.runs.columns.now (length a.pages.now) c.loop-i.i (omega (arith, ap count_in told))).1.1

pub offset_bounds-pages-i : goal.offset_bounds-pages-i
offset_bounds-pages-i c =
    let a = c.args in
    let told = rw c.in_ok-count.was at c.listing.ensures in
    omega (arith, ap count_in told, count_room a.plan.now a.runs.rows.now a.runs.columns.now (length a.pages.now))

pub bounds-pages-i : goal.bounds-pages-i
bounds-pages-i c =
    let a = c.args in
    let told = rw c.in_ok-count.was at c.listing.ensures in
    omega (arith, ap count_in told, count_room a.plan.now a.runs.rows.now a.runs.columns.now (length a.pages.now))

pub loop-i-preserved : goal.loop-i-preserved
loop-i-preserved c =
    let a = c.args in
    let i = c.loop-i.i in
    let ys = a.pages.now in
    let told = rw c.in_ok-count.was at c.listing.ensures in
    let room = count_room a.plan.now a.runs.rows.now a.runs.columns.now (length ys) in
    let next = page_next a.plan.now a.runs.rows.now a.runs.columns.now (length ys) i (omega (arith, ap count_in told)) ∙ c.page_after.ensures in
    record {
      within = omega arith;
      filled = rw c.loop-i.invariant.filled
          (filled_more i (pages_of a.plan.now a.runs.rows.now a.runs.columns.now) ys _ next (omega (arith, ap count_in told, room)));
    }

pub returns : goal.returns
returns c =
    let a = c.args in
    let told = rw c.in_ok-count.was at c.listing.ensures in
    let e : c.loop-i.i ≡ count_in (list_pages a.plan.now a.runs.rows.now a.runs.columns.now (length a.pages.now)) = omega (arith, ap count_in told) in
    (told, rw e at c.loop-i.invariant.filled ∙ pages_lent_lem a.plan.now a.runs.rows.now a.runs.columns.now a.pages.now)
