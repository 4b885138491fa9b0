-- The word, then the numbers, then the line end.
use Rattle.std.proofs.Common.{arith}
use Rattle.job_report.proofs.TextLaws.{line_put}
use Rattle.job_report.proofs.text.Text.line.Goals as goal

pub returns-clause-put : goal.returns-clause-put
returns-clause-put c = line_put _ (omega arith) (omega arith) c.bytes.ensures c.numbers.ensures.put c.byte.ensures
