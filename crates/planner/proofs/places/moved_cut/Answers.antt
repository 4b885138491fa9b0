-- Past a merge's last slot is before the first slot above it.
use Rattle.std.proofs.Common.{ℕ, ◌+◌, sym, ap, ◌∙◌, add-one}
use Rattle.planner_rules.specs.Slots.{below}
use Rattle.planner_rules.specs.Runs.{moved}
use Rattle.planner_rules.proofs.AxisLaws.{moved_start, moved_past}
use Rattle.planner_rules.proofs.Places.{through-below}
use Rattle.planner.proofs.places.moved_cut.Goals as goal

pub returns-in_default : goal.returns-in_default
unfolding moved
returns-in_default c = rw c.in_default.is

pub returns-then-start-prev : goal.returns-then-start-prev
returns-then-start-prev c =
    let a = c.args in
    moved_start a.held _ a.prev a.p a.slots.indexes.now c.in-Some.is c.place_of-start.result
    (c.place_of-start.ensures.value ∙ ap (λ (k : ℕ). below k a.slots.indexes.now) c.from.ensures) c.if-start-prev.true

pub returns : goal.returns
returns c =
    let a = c.args in
    let is = a.slots.indexes.now in
    moved_past a.held _ a.prev a.p is c.in-Some.is c.place_of-start.result
    (c.place_of-start.ensures.value ∙ ap (λ (k : ℕ). below k is) c.from.ensures) c.if-start-prev.false c.place_of-end.result
    (c.place_of-end.ensures.value ∙ ap (λ (k : ℕ). below k is) (ap (λ (k : ℕ). k + 1) c.from-2.ensures ∙ add-one _)
    ∙ sym (through-below _ is a.slots.are.rising))
