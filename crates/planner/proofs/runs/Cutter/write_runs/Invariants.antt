-- What is written, and the runs of the slots that are left, are all.
use Rattle.std.proofs.Common.{cond, length}
use Rattle.planner_rules.specs.Runs.{runs, first_marked}
use Rattle.planner_rules.proofs.Lent.{Writing}
use Rattle.planner.proofs.runs.Cutter.write_runs.Given as goal

abbrev pub invariant-loop-head : goal.invariant-loop-head
invariant-loop-head l =
    let cut = runs l.self.frame l.self.merges.firsts.now l.self.merges.lasts.now in
    Writing (first_marked (cond l.mark 1 0) (cut l.slots.indexes.now l.slots.sizes.now)) l.initial.list l.at
    (first_marked (cond l.manual 1 0) (cut l.rest.indexes.now l.rest.sizes.now)) l.list

abbrev pub decreases-loop-head : goal.decreases-loop-head
decreases-loop-head l = length l.rest.sizes.now
