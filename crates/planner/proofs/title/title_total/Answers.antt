-- The slots from the first at or after the title's first to the last at or before its last are the title's.
use Rattle.std.proofs.Common.{ℕ, ◌+◌, ap, ◌∙◌}
use Rattle.planner_rules.specs.Slots.{sum, below}
use Rattle.planner_rules.specs.Titles.{title_total}
use Rattle.planner_rules.proofs.TitleLaws.{total_some, total_none}
use Rattle.planner.proofs.title.title_total.Goals as goal

pub returns-in_default : goal.returns-in_default
unfolding title_total
returns-in_default c = rw c.in_default.is

pub returns-then-end-start : goal.returns-then-end-start
returns-then-end-start c =
    let is = c.args.slots.indexes.now in
    total_none c.args.title _ _ is c.args.slots.sizes.now c.in-Pair.is _ _
    (c.place_of-start.ensures.value ∙ ap (λ (x : ℕ). below x is) c.from.ensures)
    (c.place_of-end.ensures.value ∙ ap (λ (x : ℕ). below (x + 1) is) c.from-2.ensures) c.if-end-start.true

pub returns : goal.returns
returns c =
    let is = c.args.slots.indexes.now in
    c.total.ensures ∙ ap sum c.part.ensures.sizes_are ∙ total_some c.args.title _ _ is c.args.slots.sizes.now c.in-Pair.is _ _
    (c.place_of-start.ensures.value ∙ ap (λ (x : ℕ). below x is) c.from.ensures)
    (c.place_of-end.ensures.value ∙ ap (λ (x : ℕ). below (x + 1) is) c.from-2.ensures)
