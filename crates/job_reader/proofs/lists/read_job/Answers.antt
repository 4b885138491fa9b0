-- `job_reader::lists::read_job` meets its contract.
use Rattle.job_walk.proofs.WalkLaws.{sorted_first}
use Rattle.job_questions.proofs.PassLaws.{handed_on}
use Rattle.job_reader.specs.Reading.{lists_in}
use Rattle.job_reader.proofs.ReadingLaws.{admitted_is, given_sorted, given_areas, given_room, job_given, job_refused}
use Rattle.job_reader.proofs.lists.read_job.Goals as goal

pub invariant_of-job : goal.invariant_of-job
invariant_of-job c = record { sorted = sorted_first _ (given_sorted {l = lists_in c.args.lent.now} (admitted_is c.admit_to.ensures c.in_ok-items.was)) }

pub write_items-requires : goal.write_items-requires
write_items-requires c = given_room {l = lists_in c.args.lent.now} (admitted_is c.admit_to.ensures c.in_ok-items.was)

pub settings_of-settings-requires : goal.settings_of-settings-requires
settings_of-settings-requires c =
    given_areas {l = lists_in c.args.lent.now} (admitted_is c.admit_to.ensures c.in_ok-items.was)

pub returns-in_err-items-clause-job_read : goal.returns-in_err-items-clause-job_read
returns-in_err-items-clause-job_read c = job_refused c.admit_to.ensures c.in_err-items.was (handed_on _ _ c.from_residual.ensures.1)

pub returns-clause-job_read : goal.returns-clause-job_read
returns-clause-job_read c =
    job_given (admitted_is c.admit_to.ensures c.in_ok-items.was) c.settings_of-settings.ensures c.write_items.ensures.all_written
