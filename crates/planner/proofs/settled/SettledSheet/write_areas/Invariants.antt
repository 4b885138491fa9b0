-- The runs of the areas before those that are left are written.
use Rattle.std.proofs.Common.{◌≡◌, map}
use Rattle.std.specs.Iterator.Adapters.{zip_first, zip_second}
use Rattle.std.specs.Slice.Iter.{iter_rest}
use Rattle.planner_rules.specs.Plan.{plan_in, layouts_of, row_runs_of, column_runs_of}
use Rattle.planner_rules.specs.Asked.{sheet_by}
use Rattle.planner_rules.specs.Steps.{sides_in, FineAreas}
use Rattle.planner_rules.proofs.Lent.{Writing}
use Rattle.planner.proofs.settled.SettledSheet.write_areas.Given as goal

abbrev pub invariant-loop-range : goal.invariant-loop-range
invariant-loop-range l =
    let x = l.self.shared.now in
    let sheet = sheet_by x l.self.lists.now in
    let all = layouts_of (sides_in x) sheet l.self.areas.now in
    let left = layouts_of (sides_in x) sheet (iter_rest (zip_first l.range-iterator)) in
    record {
      fine : FineAreas (iter_rest (zip_first l.range-iterator));
      plans_are : iter_rest (zip_second l.range-iterator) ≡ map plan_in left;
      rows : Writing (row_runs_of all) l.fn.row_runs l.row_at (row_runs_of left) l.row_runs;
      columns : Writing (column_runs_of all) l.fn.column_runs l.column_at (column_runs_of left) l.column_runs;
    }
