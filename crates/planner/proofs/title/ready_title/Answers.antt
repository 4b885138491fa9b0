-- A title that is widened and summed up is ready.
use Rattle.planner_rules.specs.Titles.{limit_of}
use Rattle.planner_rules.proofs.AreaLaws.{title_ready}
use Rattle.planner.proofs.title.ready_title.Goals as goal

pub returns-clause-title_ready : goal.returns-clause-title_ready
returns-clause-title_ready c =
    let a = c.args in
    let l = a.lists in
    let total = rw (c.of.ensures.0, c.of.ensures.1) at c.title_total.ensures in
    title_ready (limit_of a.axis) a.asked l.slots.indexes.now l.slots.sizes.now l.merges.firsts.now l.merges.lasts.now
    c.requires.slots c.requires.merge_lasts_value
    c.widened_title-widened.result (rw c.limit.ensures at c.widened_title-widened.ensures) c.title_total.result total
