-- What is left of the rooms holds the areas that are left where the rooms hold all.
use Rattle.std.proofs.Common.{◌≡◌, ◌≤◌, length, drop}
use Rattle.planner_rules.specs.Pages as section
use Rattle.planner_pages.proofs.areas.runs_fit.Given as goal

abbrev pub invariant-loop-area : goal.invariant-loop-area
invariant-loop-area l = record {
  within : l.area-index ≤ length l.areas;
  held : section.runs_held (drop l.area-index l.areas) l.rows l.columns ≡ section.runs_held l.areas l.fn.room.rows l.fn.room.columns;
}
