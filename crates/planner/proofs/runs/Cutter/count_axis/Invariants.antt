-- What is counted, and what the axis has from the last kept cut on, is all.
use Rattle.std.proofs.Common.{◌≡◌, false, ◌+◌, ◌≤◌, length, drop}
use Rattle.planner_rules.specs.Runs.{axis_runs, expansions, shifts}
use Rattle.planner_rules.specs.Scale.{space_of}
use Rattle.planner_rules.specs.Pages.{overflowing}
use Rattle.planner.proofs.runs.Cutter.count_axis.Given as goal

abbrev pub invariant-loop-b : goal.invariant-loop-b
invariant-loop-b l =
    let k = l.self.frame in
    let fs = l.self.merges.firsts.now in
    let ls = l.self.merges.lasts.now in
    let is = l.slots.indexes.now in
    let all = axis_runs k fs ls is l.slots.sizes.now 0 l.breaks in
    let left = axis_runs k fs ls is l.slots.sizes.now l.prev (drop l.b-index l.breaks) in
    let exceeding = overflowing (space_of l.page.side) k.title l.page.permille false in
    (l.prev ≤ length l.slots.sizes.now) × (l.count ≤ l.prev) × (l.grown ≤ l.prev) × (l.overflows ≤ l.prev) × (l.shifts ≤ l.b-index)
    × (l.count + length left ≡ length all)
    × (l.grown + expansions left ≡ expansions all)
    × (l.overflows + exceeding left ≡ exceeding all)
    × (l.shifts + shifts k fs ls is l.prev (drop l.b-index l.breaks) ≡ shifts k fs ls is 0 l.breaks)
