-- Document 01, section "Jobs": what is meant by a setting of a job, also where its record is not there. Assumes nothing.
use Rattle.std.specs.Prelude.{List, map, ℕ, Float, Bool, false, cond, ◌||◌, eqb, Option, Some, None, is_some, unwrap_or, option_map}
use Rattle.units.specs.declared.margins.Margins.{Margins}
use Rattle.planner_rules.specs.declared.pages.PageOrder.{PageOrder}
use Rattle.planner_rules.specs.declared.pages.PageOrder.TheVariants.{DownThenOver, OverThenDown}
use Rattle.planner_rules.specs.declared.planning.Settings.{Settings}
use Rattle.planner_rules.specs.declared.planning.PrintRange.{PrintRange}
use Rattle.job_records.specs.LittleEndian.{f64_of}
use Rattle.job_records.specs.declared.records.Range.{Range}
use Rattle.job_settings.specs.declared.JobSettings.{JobSettings}

-- a record of the setting is there
abbrev pub is_given : Option ℕ → Bool
is_given setting = is_some setting

-- "FT fit u8 (absent: on if FW or FH is present)"
abbrev pub fit_on : Option ℕ → Option ℕ → Option ℕ → Bool
fit_on None width height = is_given width || is_given height
fit_on (Some x) width height = eqb x 1

-- "OD u8, 1 for over then down"
abbrev pub over_then_down : Option ℕ → Bool
over_then_down None = false
over_then_down (Some x) = eqb x 1

-- "LP page limit u64 (absent 10,000)"
abbrev pub limit_of : Option ℕ → ℕ
limit_of limit = unwrap_or limit 10000

-- "Six margins travel together: left, right, top, bottom, header, footer, in inches."
abbrev pub inches_of : Margins ℕ → Margins Float
inches_of m = record {
  left = f64_of m.left;
  right = f64_of m.right;
  top = f64_of m.top;
  bottom = f64_of m.bottom;
  header = f64_of m.header;
  footer = f64_of m.footer;
}

-- six bit patterns as margins in inches
abbrev pub margin_setting : Option (Margins ℕ) → Option (Margins Float)
margin_setting read = option_map inches_of read

-- ---- what was read, as the planner takes it

-- "OD u8, 1 for over then down"
abbrev pub order_for : Option ℕ → PageOrder
order_for f = cond (over_then_down f) OverThenDown DownThenOver

-- the settings as the planner takes them
abbrev pub settings_for : JobSettings → Settings
settings_for j = record {
  paper = j.paper;
  landscape = j.landscape;
  margins = margin_setting j.margins;
  percent = j.percent;
  fit = fit_on j.fit j.fit_width j.fit_height;
  fit_width = j.fit_width;
  fit_height = j.fit_height;
  order = order_for j.order;
  headings = j.headings;
  page_limit = limit_of j.page_limit;
  cell_limit = j.cell_limit;
}

-- a range as the planner takes it
abbrev pub range_for : Range → PrintRange
range_for a = record { first_row = a.first_row; first_column = a.first_column; last_row = a.last_row; last_column = a.last_column }

-- the areas as the planner takes them
abbrev pub areas_for : List Range → List PrintRange
areas_for = map range_for
