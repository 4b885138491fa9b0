-- One area more was looked at; after the last one the stretch ends in the grid.
use Rattle.std.proofs.Common.{◌≡◌, length, arith}
use Rattle.planner_areas.proofs.Edges.{one_more_grown, within}
use Rattle.planner_areas.proofs.union.stretch_from.Goals as goal

pub loop-range-preserved : goal.loop-range-preserved
loop-range-preserved c =
    let a = c.args in
    let l = c.loop-range in
    one_more_grown a.ranges.now a.row a.column l.range-index l.stretch c.grown-stretch.result c.loop-range-test.true l.invariant c.grown-stretch.ensures

pub returns : goal.returns
returns c =
    let a = c.args in
    let l = c.loop-range in
    let all : l.range-index ≡ length a.ranges.now = omega arith in
    rw c.min.ensures (record {
      stretch = within a.ranges.now a.row a.column (length a.ranges.now) l.stretch (rw all at l.invariant);
      inside = omega arith;
    })
