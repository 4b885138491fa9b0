-- `job_reader::lists::admit` meets its contract: the questions of the bytes, then whether the items fit.
use Rattle.std.proofs.Common.{◌∙◌}
use Rattle.job_questions.proofs.PassLaws.{handed_on}
use Rattle.job_reader.proofs.ReadingLaws.{admit_no, admit_fits}
use Rattle.job_reader.proofs.lists.admit.Goals as goal

pub returns-in_err-items : goal.returns-in_err-items
returns-in_err-items c =
    handed_on _ _ c.from_residual.ensures.1
    ∙ admit_no c.args.equally_long c.args.bytes.now c.args.room _ c.check_job_lent.ensures _ c.in_err-items.was

-- those have a yes: the last is whether the items fit
pub returns-then-fit_in : goal.returns-then-fit_in
returns-then-fit_in c =
    rw c.if-fit_in.true at
    (admit_fits c.args.equally_long c.args.bytes.now c.args.room _ c.check_job_lent.ensures _ c.in_ok-items.was _ c.fit_in.ensures)

pub returns-else-fit_in : goal.returns-else-fit_in
returns-else-fit_in c =
    rw c.if-fit_in.false at
    (admit_fits c.args.equally_long c.args.bytes.now c.args.room _ c.check_job_lent.ensures _ c.in_ok-items.was _ c.fit_in.ensures)
