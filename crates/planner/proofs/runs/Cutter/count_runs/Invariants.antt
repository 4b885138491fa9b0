-- The runs counted, and those of the slots that are left, are all.
use Rattle.std.proofs.Common.{◌≡◌, false, ◌+◌, ◌≤◌, length}
use Rattle.planner_rules.specs.Runs.{runs, expansions}
use Rattle.planner_rules.specs.Scale.{space_of}
use Rattle.planner_rules.specs.Pages.{overflowing}
use Rattle.planner.proofs.runs.Cutter.count_runs.Given as goal

abbrev pub invariant-loop-head : goal.invariant-loop-head
invariant-loop-head l =
    let k = l.self.frame in
    let cut = runs k l.self.merges.firsts.now l.self.merges.lasts.now in
    let all = cut l.slots.indexes.now l.slots.sizes.now in
    let left = cut l.rest.indexes.now l.rest.sizes.now in
    let exceeding = overflowing (space_of l.page.side) k.title l.page.permille false in
    (l.runs + length left ≡ length all)
    × (l.grown + expansions left ≡ expansions all)
    × (l.overflows + exceeding left ≡ exceeding all)
    × (l.runs + length l.rest.sizes.now ≤ length l.slots.sizes.now) × (l.grown ≤ l.runs) × (l.overflows ≤ l.runs)

abbrev pub decreases-loop-head : goal.decreases-loop-head
decreases-loop-head l = length l.rest.sizes.now
