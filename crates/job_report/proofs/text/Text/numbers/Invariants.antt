-- So many numbers stand in the array, up to its place.
use Rattle.job_report.proofs.TextLaws.{Told}
use Rattle.job_report.proofs.text.Text.numbers.Given as goal

abbrev pub invariant-loop-n : goal.invariant-loop-n
invariant-loop-n l = Told l.initial.self l.list l.self l.n-index
