-- A space, then the fewest digits.
use Rattle.std.proofs.Common.{arith}
use Rattle.job_report.proofs.TextLaws.{number_put}
use Rattle.job_report.proofs.text.Text.number.Goals as goal

pub returns-clause-put : goal.returns-clause-put
returns-clause-put c =
    let d = c.decimal-k.ensures in
    number_put c.args.n c.decimal-k.result c.decimal-k.new.out (omega (arith, c.byte.ensures.put.after)) (d.len, d.digits) c.byte.ensures c.bytes.ensures
