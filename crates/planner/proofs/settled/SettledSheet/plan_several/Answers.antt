-- A no of 11 or 12 refuses, and else the runs of all areas are written.
use Rattle.std.proofs.Common.{◌≡◌, ◌≤◌, ap, ◌∙◌, map, length, arith, rules, Err}
use Rattle.std.proofs.Math.ListN.{length-map}
use Rattle.planner_rules.specs.declared.planning.CountedAreas.{CountedAreas}
use Rattle.planner_rules.specs.Areas.{plans_in, no_plan}
use Rattle.planner_rules.specs.Lent.{room_in}
use Rattle.planner_rules.specs.Asked.{sheet_by}
use Rattle.planner_rules.specs.Plan.{layout, layouts_of, plan_in, area_layout, row_runs_of, column_runs_of}
use Rattle.planner_rules.specs.Steps.{sides_in, RoomForAll}
use Rattle.planner_rules.proofs.AreaLists.{held_are}
use Rattle.planner_rules.proofs.Lent.{room_runs}
use Rattle.planner_rules.proofs.QuestionLaws.{positive}
use Rattle.planner_rules.proofs.PlanLaws.{refuses_plan, answers_plan, room_refused, room_given, runs_fit_lem, plan_value}
use Rattle.planner.proofs.settled.SettledSheet.plan_several.Goals as goal

pub returns-in_err-ask_room : goal.returns-in_err-ask_room
returns-in_err-ask_room c =
    let a = c.args in
    let e : c.from_residual.result ≡ Err c.in_err-ask_room.field-0.0 = search rules in
    rw e (refuses_plan _ _ a.row_runs.now a.column_runs.now
    (room_refused (sides_in a.self.now.shared.now) _ a.self.now.areas.now _ c.count_areas-counted.ensures (room_in a.row_runs.now) (room_in a.column_runs.now) _
    c.in_err-ask_room.ensures (positive c.in_err-ask_room.field-0.0)))

pub write_areas-requires : goal.write_areas-requires
write_areas-requires c =
    let a = c.args in
    let gs = a.self.now.areas.now in
    let x = a.self.now.shared.now in
    let s = sheet_by x a.self.now.lists.now in
    let ls = layouts_of (sides_in x) s gs in
    let fit = runs_fit_lem (sides_in a.self.now.shared.now) _ gs _ c.count_areas-counted.ensures (room_in a.row_runs.now) (room_in a.column_runs.now) _
    c.in_ok-ask_room.ensures (omega arith) in
    let room : RoomForAll ls a.row_runs.now a.column_runs.now = record {
      row_room = room_runs (row_runs_of ls) a.row_runs.now fit.0;
      column_room = room_runs (column_runs_of ls) a.column_runs.now fit.1;
    } in
    let so_many : length (map plan_in ls) ≤ 8 = omega (arith, a.self.now.fine.few, length-map ls plan_in, length-map gs (area_layout (sides_in x) s)) in
    record {
      counted = (
        c.as_slice.ensures ∙ ap (λ (all : CountedAreas). plans_in all.areas) c.count_areas-counted.ensures ∙ held_are no_plan (map plan_in ls) so_many,
        room,
      );
    }

pub returns : goal.returns
unfolding layout
returns c =
    let a = c.args in
    let gs = a.self.now.areas.now in
    let room = room_given (sides_in a.self.now.shared.now) _ gs _ c.count_areas-counted.ensures (room_in a.row_runs.now) (room_in a.column_runs.now) _
    c.in_ok-ask_room.ensures (omega arith) in
    answers_plan _ (layout (sides_in a.self.now.shared.now) _ gs) _ room
    (c.plan_of.ensures ∙ plan_value a.self.now.shared.now _ a.self.now.settled gs _ c.count_areas-counted.ensures)
    a.row_runs.now a.column_runs.now _ _ c.write_areas.ensures.0 c.write_areas.ensures.1
