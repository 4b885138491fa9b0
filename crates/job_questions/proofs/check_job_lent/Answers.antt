-- `check_job_lent`: the pass over the records tells the first no.
use Rattle.std.proofs.Common.{◌∙◌}
use Rattle.job_questions.proofs.PassLaws.{handed_on, job_stopped, job_state, job_no, job_yes}
use Rattle.job_questions.proofs.check_job_lent.Goals as goal

pub first_no-requires : goal.first_no-requires
first_no-requires c =
    job_state c.args.equally_long c.args.bytes.now c.survey_job.result c.survey_job.ensures _ c.in_ok-state.was

pub returns-in_err-state : goal.returns-in_err-state
returns-in_err-state c =
    handed_on _ _ c.from_residual.ensures.1
    ∙ job_stopped c.args.equally_long c.args.bytes.now c.survey_job.result c.survey_job.ensures _ c.in_err-state.was

pub returns-in_err-first_no : goal.returns-in_err-first_no
returns-in_err-first_no c =
    handed_on _ _ c.from_residual-in_err-first_no.ensures.1
    ∙ job_no c.args.equally_long c.args.bytes.now c.survey_job.result c.survey_job.ensures _ c.in_ok-state.was _ c.first_no.ensures
    _ c.in_err-first_no.was

pub returns : goal.returns
returns c =
    job_yes c.args.equally_long c.args.bytes.now c.survey_job.result c.survey_job.ensures _ c.in_ok-state.was _ c.first_no.ensures
    _ c.in_ok-first_no.was
