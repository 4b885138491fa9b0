-- What is taken, and what the definition still takes from here, is the whole; the loop began at `from`.
use Rattle.std.proofs.Common.{◌≡◌, ◌+◌, ◌*◌, ◌≤◌, length, take, drop}
use Rattle.planner_rules.specs.Slots.{sum}
use Rattle.planner_rules.specs.Runs.{more, natural}
use Rattle.planner.proofs.filling.natural_fill.Given as goal

abbrev pub invariant-loop-size : goal.invariant-loop-size
invariant-loop-size l =
    let n = l.filling.slots in
    let ss = l.head.slots.sizes.now in
    (n ≡ l.initial.filling.slots + l.size-index) × (l.size-items ≡ drop l.initial.filling.slots ss) × (1 ≤ n) × (n ≤ length ss)
    × (l.filling.sum ≤ 1073741824 * n) × (n + more l.capacity l.filling.sum (drop n ss) ≡ natural l.capacity ss)
    × (l.filling.sum ≡ sum (take n ss))
