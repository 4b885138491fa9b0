-- `job::bytes::answer_in` meets its contract: what was read to lists that hold it is answered.
use Rattle.std.proofs.Common.{◌≡◌, ◌∙◌, rules}
use Rattle.std.specs.Prelude.{Err}
use Rattle.job.proofs.ReadLaws.{long_lists, refusal_told, reading_told}
use Rattle.job.proofs.bytes.answer_in.Goals as goal

pub fronts-lists-requires : goal.fronts-lists-requires
fronts-lists-requires g c = long_lists c.requires c.read_job.ensures.job_read _ c.in_ok-job.was

pub returns-in_err-job : goal.returns-in_err-job
returns-in_err-job g c =
    let e : c.from_residual.result ≡ Err c.in_err-job.field-0.0 = search rules in
    refusal_told c.requires c.read_job.ensures.job_read (g.W.Wanted.told c.args.wanted.now c.args.wanted.now) c.in_err-job.was
    (rw e (g.met.W.Wanted.refuses c.args.wanted.now c.in_err-job.field-0.0 _ _))

pub returns : goal.returns
returns g c =
    reading_told c.requires c.read_job.ensures.job_read (g.W.Wanted.told c.args.wanted.now c.answer.new.self) c.in_ok-job.was
    c.fronts-lists.result c.from.ensures (c.as_slice.ensures.value ∙ c.areas_for-areas.ensures) c.fronts-lists.ensures c.answer.ensures
