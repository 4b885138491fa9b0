-- The loop of `find_record_after` looks in the records that are left for what is left to look for.
use mathlib.Core.Path.{◌≡◌}
use lib.ListN.{drop}
use Rattle.job_records.specs.Records.{records}
use Rattle.job_walk.specs.Walk.{left, first_of, in_place}
use Rattle.job_walk.proofs.find_record_after.Given as goal

abbrev pub invariant-loop-found : goal.invariant-loop-found
invariant-loop-found l =
    (goal.iterator-loop-found).can_next l.found-iterator × (goal.iterator-loop-found).is_finite l.found-iterator
    × (first_of (drop l.left (in_place l.wanted (left l.found-iterator))) ≡ first_of (drop l.before (in_place l.wanted (records l.bytes))))
