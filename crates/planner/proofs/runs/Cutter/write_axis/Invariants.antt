-- What is written, and the runs from the last kept cut on, are all.
use Rattle.std.proofs.Common.{◌≤◌, length, drop}
use Rattle.planner_rules.specs.Runs.{axis_runs}
use Rattle.planner_rules.proofs.Lent.{Writing}
use Rattle.planner.proofs.runs.Cutter.write_axis.Given as goal

abbrev pub invariant-loop-b : goal.invariant-loop-b
invariant-loop-b l =
    (l.prev ≤ length l.slots.sizes.now)
    × Writing (axis_runs l.self.frame l.self.merges.firsts.now l.self.merges.lasts.now l.slots.indexes.now l.slots.sizes.now 0 l.breaks) l.initial.list l.at
    (axis_runs l.self.frame l.self.merges.firsts.now l.self.merges.lasts.now l.slots.indexes.now l.slots.sizes.now l.prev (drop l.b-index l.breaks)) l.list
