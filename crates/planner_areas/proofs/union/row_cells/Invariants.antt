-- The loop of `row_cells` has counted the cells before a column.
use Rattle.std.proofs.Common.{◌-◌, ◌≡◌, ◌≤◌}
use Rattle.planner_areas.proofs.Totals.{before}
use Rattle.planner_areas.proofs.union.row_cells.Given as goal

abbrev pub invariant-loop-column : goal.invariant-loop-column
invariant-loop-column l = (l.column ≤ 16384) × (l.cells ≤ l.column) × (l.cells ≡ before l.ranges l.row l.column)

abbrev pub decreases-loop-column : goal.decreases-loop-column
decreases-loop-column l = 16384 - l.column
