-- The areas that were collected, and the count that is told.
use Rattle.std.proofs.Common.{ℕ, ap, ◌∙◌, map, take}
use Rattle.job_records.specs.declared.records.JobAreas.{JobAreas}
use Rattle.job_records.specs.Areas.{held_ranges}
use Rattle.job_records.specs.Records.{AR, records}
use Rattle.job_walk.specs.Areas.{range_from}
use Rattle.job_walk.specs.Walk.{in_place}
use Rattle.job_walk.proofs.WalkLaws.{held_counted}
use Rattle.job_walk.proofs.counted_areas_of.Goals as goal

pub returns : goal.returns
returns c =
    let areas = in_place AR (records c.args.bytes.now) in
    let few = ap (λ (n : ℕ). (held_ranges (take n (map range_from areas))).ranges) c.min.ensures in
    let held = ap (λ (a : JobAreas). a.ranges) c.first_areas.ensures ∙ few ∙ held_counted c.args.count areas in
    λ i. record { count = c.args.count; ranges = held i }
