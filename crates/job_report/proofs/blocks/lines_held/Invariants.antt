-- The lines of so many pages stand in so many bytes of the array that was lent, and the block holds these and what it holds after them. The measure
-- is how many numbers are left.
use Rattle.std.proofs.Common.{◌≡◌, ◌+◌, ◌-◌}
use Rattle.job_report.proofs.BlockLaws.{Holding, part}
use Rattle.job_report.proofs.blocks.lines_held.Given as goal

abbrev pub invariant-loop-text : goal.invariant-loop-text
invariant-loop-text l = record {
  holding : Holding l.from (part l.order l.area l.runs.rows.now l.runs.columns.now l.spot.before l.most) l.initial.text.out.now
      l.text.out.now l.pages l.text.at;
  lent : l.text.out.ghost_name ≡ l.initial.text.out.ghost_name;
}

abbrev pub decreases-loop-text : goal.decreases-loop-text
decreases-loop-text l = l.most + 1 - l.pages
