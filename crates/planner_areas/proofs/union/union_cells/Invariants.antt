-- The loop of `cells_of` has counted the cells above a row.
use Rattle.std.proofs.Common.{◌-◌, ◌≡◌, ◌≤◌, ◌*◌}
use Rattle.planner_areas.proofs.Totals.{above}
use Rattle.planner_areas.proofs.union.union_cells.Given as goal

abbrev pub invariant-loop-row : goal.invariant-loop-row
invariant-loop-row l = (l.row ≤ 1048576) × (l.cells ≤ l.row * 16384) × (l.cells ≡ above l.ranges l.row)

abbrev pub decreases-loop-row : goal.decreases-loop-row
decreases-loop-row l = 1048576 - l.row
