-- Taking goes on where the title holds the next index, and else ends.
use Rattle.std.proofs.Common.{ℕ, ◌+◌, sym, ap, ◌∙◌}
use Rattle.planner_rules.specs.Runs.{resumed, resumption}
use Rattle.planner_rules.proofs.EndLaws.{goes_on, ends_there}
use Rattle.planner.proofs.runs.title_end.Goals as goal

pub returns-in_default-clause-value : goal.returns-in_default-clause-value
unfolding resumption
returns-in_default-clause-value c = rw c.in_default.is

pub returns-then-holds-clause-value : goal.returns-then-holds-clause-value
returns-then-holds-clause-value c =
    let rest = c.after.ensures in
    ap (λ (k : ℕ). c.args.n + k)
    (c.resumed_fill.ensures.value ∙ (λ i. resumed c.args.capacity c.in-Pair.last (rest.indexes_are i) (rest.sizes_are i)))
    ∙ goes_on _ _ _ _ c.args.n c.args.slots.indexes.now _ c.in-Pair.is (sym c.holds.ensures ∙ c.if-holds.true)

pub returns-clause-value : goal.returns-clause-value
returns-clause-value c = ends_there _ _ _ _ c.args.n c.args.slots.indexes.now c.args.slots.sizes.now c.in-Pair.is (sym c.holds.ensures ∙ c.if-holds.false)
