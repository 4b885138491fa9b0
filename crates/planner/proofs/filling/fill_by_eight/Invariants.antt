-- What is left is what stands past the slots that were taken; what is taken, and what the definition still takes from there, is the whole.
use Rattle.std.proofs.Common.{◌≡◌, ◌+◌, ◌*◌, ◌≤◌, length, take, drop}
use Rattle.std.specs.Slice.Iter.{chunks_exact_rest, chunks_exact_size}
use Rattle.planner_rules.specs.Slots.{sum}
use Rattle.planner_rules.specs.Runs.{more, natural}
use Rattle.planner.proofs.filling.fill_by_eight.Given as goal

abbrev pub invariant-loop-eight : goal.invariant-loop-eight
invariant-loop-eight l =
    let n = l.filling.slots in
    let ss = l.head.slots.sizes.now in
    (chunks_exact_size l.eight-iterator ≡ 8) × (chunks_exact_rest l.eight-iterator ≡ drop n ss) × (1 ≤ n) × (n ≤ length ss)
    × (l.filling.sum ≤ 1073741824 * n) × (n + more l.capacity l.filling.sum (drop n ss) ≡ natural l.capacity ss)
    × (l.filling.sum ≡ sum (take n ss))
