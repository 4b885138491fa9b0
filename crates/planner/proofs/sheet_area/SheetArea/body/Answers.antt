-- What was made ready can be cut.
use Rattle.planner_rules.proofs.AreaLaws.{row_cuttable, column_cuttable}
use Rattle.planner.proofs.sheet_area.SheetArea.body.Goals as goal

pub fitted-requires : goal.fitted-requires
fitted-requires c =
    let a = c.args.self.now in
    row_cuttable a.sheet.shared.now _ a.sheet.settled a.ready.range _ a.is_ready

pub fitted-requires-in-Columns : goal.fitted-requires-in-Columns
fitted-requires-in-Columns c =
    let a = c.args.self.now in
    column_cuttable a.sheet.shared.now _ a.sheet.settled a.ready.range _ a.is_ready

pub returns-in-Rows : goal.returns-in-Rows
returns-in-Rows c = rw c.in-Rows.is c.fitted.ensures

pub returns-in-Columns : goal.returns-in-Columns
returns-in-Columns c = rw c.in-Columns.is c.fitted-in-Columns.ensures
