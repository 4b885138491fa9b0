-- From the area that is looked at the walk ends where it ends from the first on.
use Rattle.std.proofs.Common.{◌≡◌, ◌≤◌, length, drop}
use Rattle.planner_rules.specs.Pages as section
use Rattle.planner_pages.proofs.areas.walk.Given as goal

abbrev pub invariant-loop-i : goal.invariant-loop-i
invariant-loop-i l = record {
  within : l.i ≤ length l.areas;
  left : l.rest ≤ l.before;
  ends : section.walk_from l.i l.rest (drop l.i l.areas) ≡ section.walk_from 0 l.before l.areas;
}
