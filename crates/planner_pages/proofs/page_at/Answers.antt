-- The place is among the runs of the area, and the two runs there are the page's.
use Rattle.std.proofs.Common.{ap, arith}
use Rattle.planner_rules.specs.declared.pages.Place.{Place}
use Rattle.planner_rules.proofs.PageLaws.{horizontal_below}
use Rattle.planner_rules.proofs.PagesCode.{page_there}
use Rattle.planner_pages.proofs.page_at.Goals as goal

pub run_at-columns-requires : goal.run_at-columns-requires
run_at-columns-requires c =
    let a = c.args in
    let below = horizontal_below a.area.row_runs a.area.column_runs a.before c.requires.before_bound a.order in
    omega (arith, below, ap (λ (p : Place). p.horizontal) c.place_of-place.ensures)

pub returns : goal.returns
returns c =
    let a = c.args in
    page_there a.order a.area a.runs.rows.now a.runs.columns.now a.passed.rows a.passed.columns a.before c.place_of-place.result
    c.run_at-rows.result c.run_at-columns.result c.place_of-place.ensures c.run_at-rows.ensures c.run_at-columns.ensures
