-- One area more was looked at.
use Rattle.planner_areas.proofs.Edges.{one_more_lem}
use Rattle.planner_areas.proofs.union.next_edge.Goals as goal

pub loop-range-preserved : goal.loop-range-preserved
loop-range-preserved c =
    let a = c.args in
    let l = c.loop-range in
    one_more_lem a.ranges.now a.from l.range-index l.nearest c.nearer-start.result c.nearer-nearest.result l.invariant
    (rw c.from.ensures at c.nearer-start.ensures) (rw c.from-in-loop-range.ensures at c.nearer-nearest.ensures)
