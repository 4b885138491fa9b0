-- A sheet, by what is asked of it and the lists that are handed over with that. Assumes nothing.
use Rattle.planner_rules.specs.declared.lists.SheetLists.{SheetLists}
use Rattle.planner_rules.specs.declared.titles.Title.{Title}
use Rattle.planner_rules.specs.declared.planning.Settings.{Settings}
use Rattle.planner_rules.specs.declared.planning.Request.{Request}
use Rattle.planner_rules.specs.declared.planning.Shared.{Shared}
use Rattle.planner_rules.specs.Plan.{Sheet, sheet_of}

-- settings and titles, with the lists
abbrev pub sheet_with : Settings → Title → Title → SheetLists → Sheet
sheet_with s rt ct l =
    sheet_of s rt ct l.rows.slots.indexes.now l.rows.slots.sizes.now l.columns.slots.indexes.now l.columns.slots.sizes.now
    l.rows.merges.firsts.now l.columns.merges.firsts.now l.rows.merges.lasts.now l.columns.merges.lasts.now
    l.rows.breaks.now l.columns.breaks.now

-- what is asked, with the lists
abbrev pub sheet_asked : Request → SheetLists → Sheet
sheet_asked r l = sheet_with r.settings r.row_title r.column_title l

-- what all areas share, with the lists
abbrev pub sheet_by : Shared → SheetLists → Sheet
sheet_by x l = sheet_with x.settings x.rows.asked x.columns.asked l
