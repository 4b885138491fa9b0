-- Both axes are ready, each as the settings make it.
use Rattle.std.proofs.Common.{[], ap, ◌∙◌}
use Rattle.planner_rules.specs.Plan.{AxisInput}
use Rattle.planner_rules.specs.Steps.{ready_from}
use Rattle.planner_rules.proofs.AreaLaws.{row_startable, column_startable}
use Rattle.planner.proofs.settled.SettledSheet.ready.Goals as goal

pub ready_axis-requires : goal.ready_axis-requires
ready_axis-requires c =
    let s = c.args.self.now in
    rw (ap (λ (a : AxisInput). a.first) (c.axis_range-row_axis.ensures [] [] [] [] []))
    (row_startable s.shared.now _ s.settled c.args.range c.requires.fine_area)

pub ready_axis-requires-2 : goal.ready_axis-requires-2
ready_axis-requires-2 c =
    let s = c.args.self.now in
    rw (ap (λ (a : AxisInput). a.first) (c.axis_range-column_axis.ensures [] [] [] [] []))
    (column_startable s.shared.now _ s.settled c.args.range c.requires.fine_area)

pub invariant_of-result : goal.invariant_of-result
invariant_of-result c =
    let a = c.args in
    let x = a.self.now.shared.now in
    let rows = c.ready_axis.ensures
    ∙ ap (ready_from x.sides.height x.rows) (c.axis_range-row_axis.ensures a.self.now.lists.now.rows.slots.indexes.now [] [] [] []) in
    let columns = c.ready_axis-2.ensures
    ∙ ap (ready_from x.sides.width x.columns) (c.axis_range-column_axis.ensures a.self.now.lists.now.columns.slots.indexes.now [] [] [] []) in
    record { is_ready = λ i. record { range = a.range; rows = rows i; columns = columns i } }
