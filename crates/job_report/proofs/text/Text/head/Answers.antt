-- A plan's lines are put, or the refusal's line alone.
use Rattle.job_report.specs.Lines.{head_lines}
use Rattle.job_report.proofs.text.Text.head.Goals as goal

pub returns-in-Ok : goal.returns-in-Ok
returns-in-Ok c = rw c.in-Ok.is c.plan_head.ensures

pub returns-in-Err : goal.returns-in-Err
unfolding head_lines
returns-in-Err c = rw c.in-Err.is (rw c.number.ensures at c.refusal.ensures)
