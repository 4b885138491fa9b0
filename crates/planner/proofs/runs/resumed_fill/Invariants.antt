-- What is taken, and what the definition still takes from here, is the whole.
use Rattle.std.proofs.Common.{◌≡◌, ◌+◌, ◌*◌, ◌≤◌, length, drop}
use Rattle.planner_rules.specs.Runs.{again, resumed}
use Rattle.planner.proofs.runs.resumed_fill.Given as goal

abbrev pub invariant-loop-n : goal.invariant-loop-n
invariant-loop-n l =
    (1 ≤ l.n) × (l.n ≤ length l.head.slots.sizes.now) × (l.sum ≤ 1073741824 * l.n)
    × (l.n + again l.capacity l.last l.sum (drop l.n l.head.slots.indexes.now) (drop l.n l.head.slots.sizes.now)
    ≡ resumed l.capacity l.last l.head.slots.indexes.now l.head.slots.sizes.now)
