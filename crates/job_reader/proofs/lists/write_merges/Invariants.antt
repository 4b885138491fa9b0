-- `job_reader::lists::write_merges`: what the loop keeps of the bytes that are left and of the lists.
use Rattle.std.proofs.Common.{◌+◌}
use Rattle.job_records.specs.Marks.{place}
use Rattle.job_reader.proofs.WalkLaws.{Going}
use Rattle.job_reader.specs.Reading.{MergesStill}
use Rattle.job_reader.proofs.Lent.{Numbers}
use Rattle.job_reader.proofs.lists.write_merges.Given as goal

abbrev pub invariant-loop-k : goal.invariant-loop-k
invariant-loop-k l = record {
  going : Going (place l.job.first) (place l.job.first + 1) l.job.bytes.now l.s;
  first_rows : Numbers (place l.job.first) 0 l.job.bytes.now l.s l.k l.initial.rows.firsts.now l.rows.firsts.now;
  first_columns : Numbers (place l.job.first) 1 l.job.bytes.now l.s l.k l.initial.columns.firsts.now l.columns.firsts.now;
  last_rows : Numbers (place l.job.first) 2 l.job.bytes.now l.s l.k l.initial.rows.lasts.now l.rows.lasts.now;
  last_columns : Numbers (place l.job.first) 3 l.job.bytes.now l.s l.k l.initial.columns.lasts.now l.columns.lasts.now;
  rows_still : MergesStill l.initial.rows l.rows;
  columns_still : MergesStill l.initial.columns l.columns;
}
