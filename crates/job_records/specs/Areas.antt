-- The print areas of a job, as they are held (document 02, T-02): at most eight, and a count. Assumes nothing.
use Rattle.std.specs.Prelude.{List, ◌++◌, ◌+◌, length, take, replicate, set}
use Rattle.job_records.specs.declared.records.Range.{Range}
use Rattle.job_records.specs.declared.records.JobAreas.{JobAreas}

-- "Each area .. in job order": those that count
abbrev pub ranges_in : JobAreas → List Range
ranges_in a = take a.count a.ranges

-- what stands for a range that is not there
abbrev pub nowhere : Range
nowhere = record { first_row = 0; first_column = 0; last_row = 0; last_column = 0 }

-- the first eight, and a count
abbrev pub held_ranges : List Range → JobAreas
held_ranges xs = record { count = length xs; ranges = take 8 (xs ++ replicate 8 nowhere) }

-- ---- for the private functions

-- an area more, at the place after those that count
abbrev pub pushed : JobAreas → Range → JobAreas
pushed a x = record { count = a.count + 1; ranges = set a.ranges a.count x }
