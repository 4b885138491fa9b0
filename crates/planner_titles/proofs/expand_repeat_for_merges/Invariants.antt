-- The inner loop's invariant: what is left of the pass makes of the span what the whole pass makes of the one before it. The outer loop's: the
-- passes that are left give what all give, and there is a merge within the span for each note, so that there are no more notes than merges.
use Rattle.std.proofs.Common.{◌≡◌, ◌-◌, ◌≤◌, length}
use Rattle.std.specs.Iterator.Adapters.{zip_first, zip_second}
use Rattle.std.specs.Slice.Iter.{chunks_rest, chunks_size}
use Rattle.planner_rules.specs.Titles.{pass, still, passes, expand}
use Rattle.planner_rules.proofs.TitleLaws.{inside}
use Rattle.planner_titles.proofs.expand_repeat_for_merges.Given as goal

abbrev pub invariant-loop-firsts : goal.invariant-loop-firsts
invariant-loop-firsts l =
    let fs = l.merges.firsts.now in
    let ls = l.merges.lasts.now in
    (l.expanded ≤ inside l.span fs ls)
    × (passes fs ls (length fs - l.expanded) (still fs ls l.span) l.span l.expanded ≡ expand fs ls l.fn.asked.first l.fn.asked.last)

abbrev pub decreases-loop-firsts : goal.decreases-loop-firsts
decreases-loop-firsts l = length l.merges.firsts.now - inside l.span l.merges.firsts.now l.merges.lasts.now

abbrev pub invariant-loop-firsts-2 : goal.invariant-loop-firsts-2
invariant-loop-firsts-2 l =
    let fs = zip_first l.firsts-iterator in
    let ls = zip_second l.firsts-iterator in
    (chunks_size fs ≡ 32) × (chunks_size ls ≡ 32)
    × (pass (chunks_rest fs) (chunks_rest ls) l.span ≡ pass l.merges.firsts.now l.merges.lasts.now l.previous)
