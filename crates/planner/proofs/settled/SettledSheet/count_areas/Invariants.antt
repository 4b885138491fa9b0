-- So many areas are counted.
use Rattle.std.proofs.Common.{◌≡◌, ◌≤◌, length, take}
use Rattle.planner_rules.specs.Plan.{layouts_of}
use Rattle.planner_rules.specs.Asked.{sheet_by}
use Rattle.planner_rules.specs.Steps.{sides_in, counted_of, FewAll}
use Rattle.planner.proofs.settled.SettledSheet.count_areas.Given as goal

abbrev pub invariant-loop-range : goal.invariant-loop-range
invariant-loop-range l =
    let x = l.self.shared.now in
    record {
      within : l.range-index ≤ length l.range-items;
      counted : l.all ≡ counted_of (layouts_of (sides_in x) (sheet_by x l.self.lists.now) (take l.range-index l.range-items));
      few : FewAll l.all;
    }
