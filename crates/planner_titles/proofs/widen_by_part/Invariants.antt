-- The loop's invariant: what is left of the part makes of the span what the whole part makes of the one before it.
use Rattle.std.proofs.Common.{◌≡◌}
use Rattle.std.specs.Iterator.Adapters.{zip_first, zip_second}
use Rattle.std.specs.Slice.Iter.{iter_rest}
use Rattle.planner_rules.specs.Titles.{pass}
use Rattle.planner_titles.proofs.widen_by_part.Given as goal

abbrev pub invariant-loop-first : goal.invariant-loop-first
invariant-loop-first l =
    pass (iter_rest (zip_first l.first-iterator)) (iter_rest (zip_second l.first-iterator)) l.wide
    ≡ pass l.merges.firsts.now l.merges.lasts.now l.initial.wide
