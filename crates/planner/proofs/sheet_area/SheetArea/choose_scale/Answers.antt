-- The scale that was chosen for the bodies is the area's.
use Rattle.std.proofs.Common.{◌≡◌, ◌&&◌, ℕ}
use Rattle.planner_rules.specs.Scale.{scale_of, fit_scale, fit_passes}
use Rattle.planner_rules.specs.Asked.{sheet_by}
use Rattle.planner_rules.proofs.AreaLaws.{scale_is}
use Rattle.planner.proofs.sheet_area.SheetArea.choose_scale.Goals as goal

pub returns-then-settings : goal.returns-then-settings
returns-then-settings c =
    let a = c.args.self.now in
    let rows = c.body.ensures in
    let columns = c.body-then-settings.ensures in
    let r = c.body.result in
    let k = c.body-then-settings.result in
    let found : scale_of c.fit_scale.result ≡ fit_scale (λ (p : ℕ).
    fit_passes r.fit r.merges.firsts.now r.merges.lasts.now r.slots.indexes.now r.slots.sizes.now p
    && fit_passes k.fit k.merges.firsts.now k.merges.lasts.now k.slots.indexes.now k.slots.sizes.now p) = c.fit_scale.ensures in
    let of_area = rw (
      rows.fit_is,
      rows.merges_are.0,
      rows.merges_are.1,
      rows.slots_are.0,
      rows.slots_are.1,
      columns.fit_is,
      columns.merges_are.0,
      columns.merges_are.1,
      columns.slots_are.0,
      columns.slots_are.1,
    ) at found in
    scale_is a.sheet.shared.now (sheet_by a.sheet.shared.now a.sheet.lists.now) a.sheet.settled a.ready.range _ a.is_ready _ (rw c.if-settings.true of_area)

pub returns : goal.returns
returns c =
    let a = c.args.self.now in
    scale_is a.sheet.shared.now (sheet_by a.sheet.shared.now a.sheet.lists.now) a.sheet.settled a.ready.range _ a.is_ready _
    (rw c.if-settings.false c.fixed_scale.ensures)
