-- `job_reader::lists::write_slots`: what the loop keeps of the bytes that are left and of the lists.
use Rattle.std.proofs.Common.{◌+◌}
use Rattle.job_records.specs.Marks.{place}
use Rattle.job_reader.proofs.WalkLaws.{Going}
use Rattle.job_reader.specs.Reading.{SlotsStill}
use Rattle.job_reader.proofs.Lent.{Numbers}
use Rattle.job_reader.proofs.lists.write_slots.Given as goal

abbrev pub invariant-loop-k : goal.invariant-loop-k
invariant-loop-k l = record {
  going : Going (place l.job.first) (place l.job.first + 1) l.job.bytes.now l.s;
  indexes : Numbers (place l.job.first) 0 l.job.bytes.now l.s l.k l.initial.lent.indexes.now l.lent.indexes.now;
  sizes : Numbers (place l.job.first) 1 l.job.bytes.now l.s l.k l.initial.lent.sizes.now l.lent.sizes.now;
  still : SlotsStill l.initial.lent l.lent;
}
