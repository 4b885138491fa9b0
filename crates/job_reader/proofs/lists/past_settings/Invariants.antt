-- `job_reader::lists::past_settings`: what the loop keeps of the bytes that are left.
use Rattle.std.proofs.Common.{length}
use Rattle.job_records.specs.Marks.{place}
use Rattle.job_reader.proofs.WalkLaws.{Going}
use Rattle.job_reader.proofs.lists.past_settings.Given as goal

abbrev pub invariant-loop-head : goal.invariant-loop-head
invariant-loop-head l = Going (place l.job.first) 15 l.job.bytes.now l.s

abbrev pub decreases-loop-head : goal.decreases-loop-head
decreases-loop-head l = length l.s
