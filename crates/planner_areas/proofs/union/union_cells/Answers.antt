-- Up to the next edge every row has as many cells.
use Rattle.std.proofs.Common.{◌≡◌, ◌-◌, sym, arith}
use Rattle.std.proofs.Math.Nat.{mul-le-mul_left}
use Rattle.planner_rules.specs.Union.{cells_in, union_cells}
use Rattle.planner_areas.proofs.Totals.{above_none, band}
use Rattle.planner_areas.proofs.union.union_cells.Goals as goal

pub loop-row-init : goal.loop-row-init
loop-row-init c = (omega arith, omega arith, sym (above_none c.args.ranges.now))

pub overflow_mul-cells : goal.overflow_mul-cells
overflow_mul-cells c =
    let few = mul-le-mul_left (c.next_edge-next.result - c.loop-row.row) c.row_cells.ensures.1 in
    omega (arith, few, c.next_edge-next.ensures.upto)

pub overflow_add-cells : goal.overflow_add-cells
overflow_add-cells c =
    let e = c.next_edge-next in
    let few = mul-le-mul_left (e.result - c.loop-row.row) c.row_cells.ensures.1 in
    omega (arith, few, e.ensures.upto, e.ensures.past, c.loop-row.invariant.1)

pub loop-row-preserved : goal.loop-row-preserved
loop-row-preserved c =
    let l = c.loop-row in
    let e = c.next_edge-next in
    let r = c.row_cells in
    let few = mul-le-mul_left (e.result - l.row) r.ensures.1 in
    let more = band c.args.ranges.now l.row e.result r.result e.ensures r.ensures.0 in
    (omega (arith, e.ensures.upto), omega (arith, few, e.ensures.past, l.invariant.1), omega (arith, more, l.invariant.2))

pub returns : goal.returns
unfolding cells_in union_cells
returns c =
    let e : c.loop-row.row ≡ 1048576 = omega arith in
    rw e at c.loop-row.invariant.2
