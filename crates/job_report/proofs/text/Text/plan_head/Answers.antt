-- The notes' line stands after the plan's.
use Rattle.std.proofs.Common.{arith}
use Rattle.job_report.specs.Lines.{head_lines}
use Rattle.job_report.proofs.TextLaws.{texts_join}
use Rattle.job_report.proofs.text.Text.plan_head.Goals as goal

pub returns : goal.returns
unfolding head_lines
returns c = texts_join (omega arith) c.plan.ensures.put c.notes.ensures
