-- The loop goes down, so that its invariant is the definition at the merges passed.
use Rattle.std.proofs.Common.{◌≡◌, drop}
use Rattle.planner_rules.specs.Runs.{holding_onto}
use Rattle.planner_cuts.proofs.merges.earliest_of.Given as goal

abbrev pub invariant-loop-i : goal.invariant-loop-i
invariant-loop-i l =
    l.held ≡ holding_onto l.clip.first l.clip.last l.b (drop l.i l.merges.firsts.now) (drop l.i l.merges.lasts.now) l.fn.found
