-- The loop of `next_edge` has passed areas of which none starts or ends between `from` and the nearest edge.
use Rattle.planner_areas.specs.Edges as edges
use Rattle.planner_areas.proofs.union.next_edge.Given as goal

abbrev pub invariant-loop-range : goal.invariant-loop-range
invariant-loop-range l = edges.ClearOf l.range-index l.ranges l.from l.nearest
