-- Where the walk ends tells whether there are so many pages.
use Rattle.std.proofs.Common.{sym, ◌∙◌}
use Rattle.planner_rules.proofs.ListLaws.{count_within, count_left}
use Rattle.planner_pages.proofs.page_count.Goals as goal

pub overflow_sub-result : goal.overflow_sub-result
overflow_sub-result c =
    let end = rw c.as_slice.ensures at c.walk.ensures in
    (count_left c.args.plan.now c.in-Err.left (sym end ∙ c.in-Err.is)).0

pub returns-in-Ok : goal.returns-in-Ok
returns-in-Ok c =
    let end = rw c.as_slice.ensures at c.walk.ensures in
    count_within c.args.plan.now c.in-Ok.field-0 (sym end ∙ c.in-Ok.is)

pub returns-in-Err : goal.returns-in-Err
returns-in-Err c =
    let end = rw c.as_slice.ensures at c.walk.ensures in
    (count_left c.args.plan.now c.in-Err.left (sym end ∙ c.in-Err.is)).1
