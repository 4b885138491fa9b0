-- The runs of both cuts are the area's.
use Rattle.std.proofs.Common.{ap}
use Rattle.planner_rules.specs.declared.planning.Frames.{Frames}
use Rattle.planner_rules.specs.Plan.{rows_in, columns_in}
use Rattle.planner_rules.specs.Asked.{sheet_by}
use Rattle.planner_rules.specs.Steps.{sides_in}
use Rattle.planner_rules.proofs.AreaLaws.{rows_are, columns_are, empty_is, has_room, are_written}
use Rattle.planner.proofs.sheet_area.SheetArea.write_by.Goals as goal

pub write_cut-requires : goal.write_cut-requires
write_cut-requires c =
    let a = c.args in
    let s = a.self.now in
    let x = s.sheet.shared.now in
    let w = c.requires.writable in
    let sheet = sheet_by x s.sheet.lists.now in
    let ready = rows_are x sheet s.sheet.settled s.ready.range _ s.is_ready in
    let frame = ap (λ (k : Frames). k.rows) c.requires.frames_are in
    let breaks = c.looked_at.ensures in
    let e = c.body.ensures in
    record {
      room = rw (e.merges_are.0, e.merges_are.1, e.slots_are.0, e.slots_are.1) (
        empty_is _ (sides_in x).height (rows_in sheet s.ready.range) ready a.area.permille _ breaks _ frame _ w.rows_empty,
        has_room _ (sides_in x).height (rows_in sheet s.ready.range) ready a.area.permille _ breaks _ frame a.rows.now w.row_room,
      );
    }

pub write_cut-requires-2 : goal.write_cut-requires-2
write_cut-requires-2 c =
    let a = c.args in
    let s = a.self.now in
    let x = s.sheet.shared.now in
    let w = c.requires.writable in
    let sheet = sheet_by x s.sheet.lists.now in
    let ready = columns_are x sheet s.sheet.settled s.ready.range _ s.is_ready in
    let frame = ap (λ (k : Frames). k.columns) c.requires.frames_are in
    let breaks = c.looked_at-2.ensures in
    let e = c.body-2.ensures in
    record {
      room = rw (e.merges_are.0, e.merges_are.1, e.slots_are.0, e.slots_are.1) (
        empty_is _ (sides_in x).width (columns_in sheet s.ready.range) ready a.area.permille _ breaks _ frame _ w.columns_empty,
        has_room _ (sides_in x).width (columns_in sheet s.ready.range) ready a.area.permille _ breaks _ frame a.columns.now w.column_room,
      );
    }

pub returns : goal.returns
returns c =
    let a = c.args in
    let s = a.self.now in
    let x = s.sheet.shared.now in
    let sheet = sheet_by x s.sheet.lists.now in
    let rows = rows_are x sheet s.sheet.settled s.ready.range _ s.is_ready in
    let columns = columns_are x sheet s.sheet.settled s.ready.range _ s.is_ready in
    let row_frame = ap (λ (k : Frames). k.rows) c.requires.frames_are in
    let column_frame = ap (λ (k : Frames). k.columns) c.requires.frames_are in
    let r = c.body.ensures in
    let k = c.body-2.ensures in
    let row_list = rw (r.merges_are.0, r.merges_are.1, r.slots_are.0, r.slots_are.1) at c.write_cut.ensures in
    let column_list = rw (k.merges_are.0, k.merges_are.1, k.slots_are.0, k.slots_are.1) at c.write_cut-2.ensures in (
      are_written _ (sides_in x).height (rows_in sheet s.ready.range) rows a.area.permille _ c.looked_at.ensures _ row_frame a.rows.now _ row_list,
      are_written _ (sides_in x).width (columns_in sheet s.ready.range) columns a.area.permille _ c.looked_at-2.ensures _ column_frame
          a.columns.now _ column_list,
    )
