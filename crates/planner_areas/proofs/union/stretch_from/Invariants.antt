-- The loop of `stretch_from` has passed areas that made the stretch.
use Rattle.planner_areas.specs.Edges as edges
use Rattle.planner_areas.proofs.union.stretch_from.Given as goal

abbrev pub invariant-loop-range : goal.invariant-loop-range
invariant-loop-range l = edges.StretchOf l.range-index l.ranges l.row l.column l.stretch
