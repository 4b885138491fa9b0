-- `job_reader::lists::write_breaks`: what the loop keeps of the bytes that are left and of the list.
use Rattle.std.proofs.Common.{◌+◌}
use Rattle.job_records.specs.Marks.{place}
use Rattle.job_reader.proofs.WalkLaws.{Going}
use Rattle.job_reader.proofs.Lent.{Numbers}
use Rattle.job_reader.proofs.lists.write_breaks.Given as goal

abbrev pub invariant-loop-index : goal.invariant-loop-index
invariant-loop-index l = record {
  going : Going (place l.job.first) (place l.job.first + 1) l.job.bytes.now l.s;
  numbers : Numbers (place l.job.first) 0 l.job.bytes.now l.s l.index-index l.initial.breaks l.breaks;
}
