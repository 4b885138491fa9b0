-- No merge is as the test says where none was so far and none of those to come is.
use Rattle.std.proofs.Common.{◌≡◌, ◌&&◌, ℕ, Bool, drop}
use Rattle.planner_rules.specs.Titles.{no_merge}
use Rattle.planner_rules.proofs.lists.MergeList.none.Given as goal

abbrev pub invariant-loop-i : goal.invariant-loop-i
invariant-loop-i g l =
    let one : ℕ → ℕ → Bool = g.T.MergeTest.says l.test in
    no_merge one l.firsts l.lasts ≡ (l.none && no_merge one (drop l.i l.firsts) (drop l.i l.lasts))
