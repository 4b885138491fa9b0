-- Its first no refuses, and else the spot has the page or there is none.
use Rattle.std.proofs.Common.{◌≡◌, sym, ap, ◌∙◌, rules, arith, Some, None}
use Rattle.units.specs.Outcome.{given, refused}
use Rattle.units.specs.Refusals.{outcome}
use Rattle.planner_rules.proofs.PagesCode.{rooms_of, page_few, page_missing, page_stands, page_found}
use Rattle.planner_pages.proofs.page_numbered.Goals as goal

pub returns-then-not-holds_runs : goal.returns-then-not-holds_runs
returns-then-not-holds_runs c =
    let a = c.args in
    page_few a.plan.now a.runs.rows.now a.runs.columns.now a.number (sym c.holds_runs.ensures ∙ c.if-not-holds_runs.true)

pub returns-in_err-spot : goal.returns-in_err-spot
returns-in_err-spot c =
    let a = c.args in
    let held = sym c.holds_runs.ensures ∙ c.if-not-holds_runs.false in
    let none : c.page_spot.result ≡ None = grind arith in
    let e : outcome c.from_residual.result ≡ refused 14 = search rules in
    e ∙ page_missing a.plan.now a.runs.rows.now a.runs.columns.now a.number held c.page_spot.result c.page_spot.ensures none

pub spot_page-requires-clause-rows_fit : goal.spot_page-requires-clause-rows_fit
spot_page-requires-clause-rows_fit c =
    let a = c.args in
    let held = sym c.holds_runs.ensures ∙ c.if-not-holds_runs.false in
    (rooms_of a.plan.now a.runs.rows.now a.runs.columns.now held).0

pub spot_page-requires-clause-columns_fit : goal.spot_page-requires-clause-columns_fit
spot_page-requires-clause-columns_fit c =
    let a = c.args in
    let held = sym c.holds_runs.ensures ∙ c.if-not-holds_runs.false in
    (rooms_of a.plan.now a.runs.rows.now a.runs.columns.now held).1

pub spot_page-requires-clause-stands : goal.spot_page-requires-clause-stands
spot_page-requires-clause-stands c =
    let a = c.args in
    let held = sym c.holds_runs.ensures ∙ c.if-not-holds_runs.false in
    let some : c.page_spot.result ≡ Some c.in_ok-spot.spot = grind arith in
    page_stands a.plan.now a.runs.rows.now a.runs.columns.now a.number held
    c.page_spot.result c.page_spot.ensures c.in_ok-spot.spot some

pub returns : goal.returns
returns c =
    let a = c.args in
    let held = sym c.holds_runs.ensures ∙ c.if-not-holds_runs.false in
    let some : c.page_spot.result ≡ Some c.in_ok-spot.spot = grind arith in
    ap given c.spot_page.ensures
    ∙ page_found a.plan.now a.runs.rows.now a.runs.columns.now a.number held
    c.page_spot.result c.page_spot.ensures c.in_ok-spot.spot some
