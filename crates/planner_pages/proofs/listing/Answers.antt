-- Its first no refuses, and else there is the count.
use Rattle.std.proofs.Common.{sym, ◌∙◌}
use Rattle.planner_rules.proofs.ListLaws.{list_refused, list_long, list_fits}
use Rattle.planner_pages.proofs.listing.Goals as goal

pub returns-then-not-holds_runs : goal.returns-then-not-holds_runs
returns-then-not-holds_runs c =
    let a = c.args in
    list_refused a.plan.now a.room a.runs.rows.now a.runs.columns.now (sym c.holds_runs.ensures ∙ c.if-not-holds_runs.true)

pub returns-then-count-room : goal.returns-then-count-room
returns-then-count-room c =
    let a = c.args in
    list_long a.plan.now a.room a.runs.rows.now a.runs.columns.now (sym c.holds_runs.ensures ∙ c.if-not-holds_runs.false)
    c.page_count-count.result c.page_count-count.ensures c.if-count-room.true

pub returns : goal.returns
returns c =
    let a = c.args in
    list_fits a.plan.now a.room a.runs.rows.now a.runs.columns.now (sym c.holds_runs.ensures ∙ c.if-not-holds_runs.false)
    c.page_count-count.result c.page_count-count.ensures c.if-count-room.false
