-- The loop of `survey_job` has seen the records before the rest of the bytes, and the rest grows shorter.
use lib.ListN.{length}
use Rattle.job_questions.proofs.PassLaws.{Seen}
use Rattle.job_questions.proofs.survey_job.Given as goal

abbrev pub invariant-loop-head : goal.invariant-loop-head
invariant-loop-head l = Seen l.bytes l.s l.t

abbrev pub decreases-loop-head : goal.decreases-loop-head
decreases-loop-head l = length l.s
