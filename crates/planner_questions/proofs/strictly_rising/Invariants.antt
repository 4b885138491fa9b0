-- What was asked of the pairs that came, and the definition at what is left, is the whole.
use Rattle.std.proofs.Common.{◌≡◌, ◌&&◌}
use Rattle.std.specs.Slice.Iter.{windows_rest, windows_size}
use Rattle.planner_rules.specs.Questions.{rising}
use Rattle.planner_questions.proofs.strictly_rising.Given as goal

abbrev pub invariant-loop-pair : goal.invariant-loop-pair
invariant-loop-pair l =
    (windows_size l.pair-iterator ≡ 2) × (l.rises && rising (windows_rest l.pair-iterator) ≡ rising l.indexes)
