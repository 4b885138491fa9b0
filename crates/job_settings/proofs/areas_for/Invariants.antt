-- The areas so far, as the planner takes them.
use Rattle.std.proofs.Common.{◌≡◌, ◌≤◌, map, length, take}
use Rattle.job_settings.specs.Meaning.{range_for}
use Rattle.job_settings.proofs.areas_for.Given as goal

abbrev pub invariant-loop-cells : goal.invariant-loop-cells
invariant-loop-cells l = (l.cells-index ≤ length l.cells-items) × (l.areas.items ≡ map range_for (take l.cells-index l.cells-items))
