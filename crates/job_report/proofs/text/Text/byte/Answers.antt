-- One byte is put.
use Rattle.std.proofs.Common.{refl}
use Rattle.job_report.proofs.TextLaws.{text_byte}
use Rattle.job_report.proofs.text.Text.byte.Goals as goal

pub returns : goal.returns
returns c = text_byte c.args.self.now c.args.b c.requires _ refl refl refl
