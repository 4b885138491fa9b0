-- What was counted of the bodies is what the area comes to at the scale.
use Rattle.std.proofs.Common.{ap₂, ◌∙◌}
use Rattle.planner_rules.specs.declared.planning.FinalCut.{FinalCut}
use Rattle.planner_rules.specs.Scale.{scale_of}
use Rattle.planner_rules.specs.Asked.{sheet_by}
use Rattle.planner_rules.specs.Steps.{area_from}
use Rattle.planner_rules.proofs.AreaLaws.{counted_is}
use Rattle.planner.proofs.sheet_area.SheetArea.count_at.Goals as goal

pub returns-clause-counted : goal.returns-clause-counted
returns-clause-counted c =
    let a = c.args.self.now in
    let x = a.sheet.shared.now in
    let z = scale_of c.args.scale in
    let r = c.body.ensures in
    let k = c.body-2.ensures in
    let rows = rw (
      c.looked_at.ensures,
      r.fit_is,
      r.merges_are.0,
      r.merges_are.1,
      r.slots_are.0,
      r.slots_are.1,
    ) at c.count_cut-row_cut.ensures.counted in
    let columns = rw (
      c.looked_at-2.ensures,
      k.fit_is,
      k.merges_are.0,
      k.merges_are.1,
      k.slots_are.0,
      k.slots_are.1,
    ) at c.count_cut-column_cut.ensures.counted in
    c.area_from.ensures ∙ ap₂ (λ (m n : FinalCut). area_from m n z) rows columns
    ∙ counted_is x (sheet_by x a.sheet.lists.now) a.sheet.settled a.ready.range _ a.is_ready z
