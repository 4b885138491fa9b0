-- The areas of a job, and the limits of its pages and of their cells, from the records with their marks (document 02, T-02). Assumes nothing.
use Rattle.std.specs.Prelude.{List, [], ◌∷◌, map, ℕ, Bool, cond, ◌||◌, eqb, Option, Some, None}
use Rattle.job_records.specs.Records.{LP, UC, field}
use Rattle.job_records.specs.Areas.{held_ranges}
use Rattle.job_records.specs.declared.records.JobAreas.{JobAreas}
use Rattle.job_records.specs.declared.records.Range.{Range}
use Rattle.job_records.specs.declared.records.Record.{Record}

-- "LP page limit u64"; "UC, u64 ..; absent means no limit"
abbrev pub limit_from : List Record → Option ℕ
limit_from [] = None
limit_from (r ∷ rs) = Some (field 0 r)

-- the marks of limits
abbrev pub is_limit : ℕ → Bool
is_limit k = eqb k LP || eqb k UC

-- the limit in the records with the mark k, which is none where the mark is no limit's
abbrev pub limit_in : ℕ → List Record → Option ℕ
limit_in k rs = cond (is_limit k) (limit_from rs) None

-- "AR range u32, u16, u32, u16 as first row, first column, last row, last column"
abbrev pub range_from : Record → Range
range_from r = record { first_row = field 0 r; first_column = field 1 r; last_row = field 2 r; last_column = field 3 r }

-- "AR may stand up to eight times"; "in job order"
abbrev pub areas_from : List Record → JobAreas
areas_from rs = held_ranges (map range_from rs)

-- the first eight, and a count
abbrev pub areas_held : ℕ → List Record → JobAreas
areas_held n rs = record { count = n; ranges = (held_ranges (map range_from rs)).ranges }
