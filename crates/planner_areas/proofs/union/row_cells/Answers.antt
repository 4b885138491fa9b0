-- A stretch adds the cells that it reaches.
use Rattle.std.proofs.Common.{◌≡◌, sym, arith}
use Rattle.planner_areas.specs.Edges.{row_cells}
use Rattle.planner_areas.proofs.Totals.{before_none, stretch_adds}
use Rattle.planner_areas.proofs.union.row_cells.Goals as goal

pub loop-column-init : goal.loop-column-init
loop-column-init c = (omega arith, omega arith, sym (before_none c.args.ranges.now c.args.row))

pub loop-column-preserved : goal.loop-column-preserved
loop-column-preserved c =
    let a = c.args in
    let l = c.loop-column in
    let s = c.stretch_from-stretch in
    let more = stretch_adds a.ranges.now a.row l.column s.result s.ensures.stretch in
    let o = s.ensures.stretch in
    rw c.max-column.ensures
    (omega (arith, o.upto, s.ensures.inside), omega (arith, o.from, l.invariant.1), omega (arith, more, o.from, l.invariant.2))

pub returns : goal.returns
unfolding row_cells
returns c =
    let e : c.loop-column.column ≡ 16384 = omega arith in
    (rw e at c.loop-column.invariant.2, omega arith)
