-- With no slot left nothing is resumed, and else the title is asked.
use Rattle.std.proofs.Common.{◌∙◌}
use Rattle.planner_rules.proofs.EndLaws.{taken_all, taken_more}
use Rattle.planner.proofs.runs.taken_slots.Goals as goal

pub returns-then-n-slots-clause-value : goal.returns-then-n-slots-clause-value
returns-then-n-slots-clause-value c =
    let a = c.args in
    taken_all a.k a.slots.indexes.now a.slots.sizes.now a.n c.requires.0 c.if-n-slots.true

pub returns-clause-value : goal.returns-clause-value
returns-clause-value c =
    let a = c.args in
    c.title_end.ensures.value ∙ taken_more a.k a.slots.indexes.now a.slots.sizes.now a.n c.requires.0 c.if-n-slots.false
