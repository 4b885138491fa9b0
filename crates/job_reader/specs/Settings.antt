-- Document 01, section "Jobs": the settings of a job, each with whether its record is there. Assumes nothing.
use Rattle.std.specs.Prelude.{Bool, true, false, List, [], ◌∷◌, ℕ, Option, Some, None}
use Rattle.planner_rules.specs.declared.titles.Title.{Title}
use Rattle.planner_rules.specs.declared.titles.Title.TheVariants as title
use Rattle.job_records.specs.Records.{PC, LA, MG, SC, FW, FH, FT, OD, HD, LP, UC, AR, TR, TC, field, marked}
use Rattle.job_records.specs.declared.records.Record.{Record}
use Rattle.units.specs.declared.margins.Margins.{Margins}
use Rattle.job_settings.specs.declared.JobSettings.{JobSettings}
use Rattle.job_walk.specs.Areas.{limit_from, areas_from}

-- ---- a setting, from the records with its mark: but for AR, there is one at most

-- "PC paper u16", "SC percent u16", "FW, FH targets u16"
abbrev pub number_from : List Record → Option ℕ
number_from [] = None
number_from (r ∷ rs) = Some (field 0 r)

-- "LA landscape", "HD headings": a record that "has no body" is there or not
abbrev pub is_there : List Record → Bool
is_there [] = false
is_there (r ∷ rs) = true

-- "MG six f64": "left, right, top, bottom, header, footer"
abbrev pub margins_from : List Record → Option (Margins ℕ)
margins_from [] = None
margins_from (r ∷ rs) =
    Some (record { left = field 0 r; right = field 1 r; top = field 2 r; bottom = field 3 r; header = field 4 r; footer = field 5 r })

-- "FT fit u8", "OD u8"
abbrev pub flag_from : List Record → Option ℕ
flag_from [] = None
flag_from (r ∷ rs) = Some (field 0 r)

-- "A title is absent or a pair first, last.": "TR two u32; TC two u16"
abbrev pub title_from : List Record → Title
title_from [] = title.Absent
title_from (r ∷ rs) = title.Pair (field 0 r) (field 1 r)

-- the settings of the records, in their order
abbrev pub settings_of : List Record → JobSettings
settings_of rs = record {
  paper = number_from (marked PC rs);
  landscape = is_there (marked LA rs);
  margins = margins_from (marked MG rs);
  percent = number_from (marked SC rs);
  fit_width = number_from (marked FW rs);
  fit_height = number_from (marked FH rs);
  fit = flag_from (marked FT rs);
  order = flag_from (marked OD rs);
  headings = is_there (marked HD rs);
  page_limit = limit_from (marked LP rs);
  cell_limit = limit_from (marked UC rs);
  areas = areas_from (marked AR rs);
  row_title = title_from (marked TR rs);
  column_title = title_from (marked TC rs);
}
