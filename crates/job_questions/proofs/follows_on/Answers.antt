-- `follows_on`: a later mark, or the same one again.
use Rattle.job_records.proofs.MarkLaws.{later_is, same_is}
use Rattle.job_questions.proofs.follows_on.Goals as goal

pub returns-in-Some : goal.returns-in-Some
returns-in-Some c =
    rw (c.gt.ensures, c.eq.ensures, c.repeats.ensures, later_is c.args.next c.in-Some.mark, same_is c.in-Some.mark c.args.next, c.in-Some.is)
