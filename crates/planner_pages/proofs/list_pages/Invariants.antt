-- So many pages of the plan stand at the front of the list.
use Rattle.std.proofs.Common.{◌≡◌, ◌++◌, ◌≤◌, take, drop}
use Rattle.planner_rules.specs.Pages as section
use Rattle.planner_pages.proofs.list_pages.Given as goal

abbrev pub invariant-loop-i : goal.invariant-loop-i
invariant-loop-i l = record {
  within : l.i ≤ l.count;
  filled : l.pages ≡ take l.i (section.pages_of l.plan l.runs.rows.now l.runs.columns.now) ++ drop l.i l.initial.pages;
}
