-- The areas that were collected and those that are left are all areas.
use Rattle.std.proofs.Common.{◌≡◌, ◌++◌, ◌≤◌}
use Rattle.job_records.specs.Areas.{ranges_in, held_ranges}
use Rattle.job_records.specs.Records.{records}
use Rattle.job_walk.specs.Walk.{left}
use Rattle.job_walk.proofs.WalkLaws.{ranges_left}
use Rattle.job_walk.proofs.first_areas.Given as goal

abbrev pub invariant-loop-found : goal.invariant-loop-found
invariant-loop-found l =
    (goal.iterator-loop-found).can_next l.found-iterator × (goal.iterator-loop-found).is_finite l.found-iterator
    × (l.areas.count ≤ l.most) × (l.areas ≡ held_ranges (ranges_in l.areas))
    × (ranges_in l.areas ++ ranges_left (left l.found-iterator) ≡ ranges_left (records l.bytes))
