-- Each turn puts a number more.
use Rattle.std.proofs.Common.{arith}
use Rattle.job_report.proofs.TextLaws.{told_none, told_more}
use Rattle.job_report.proofs.text.Text.numbers.Goals as goal

pub loop-n-init : goal.loop-n-init
loop-n-init c = told_none _ _

pub loop-n-preserved : goal.loop-n-preserved
loop-n-preserved c = told_more c.loop-n-test.true (omega arith) c.loop-n.invariant c.number.ensures.put c.number.ensures.upper_bound
