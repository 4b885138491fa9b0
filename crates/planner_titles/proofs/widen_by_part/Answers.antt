-- Where none widens the span stays; else each turn is a step of the pass, whose end leaves the span.
use Rattle.std.proofs.Common.{sym, ◌∙◌}
use Rattle.std.proofs.lemmas.Slice.Zip.{either_empty_from_Zip}
use Rattle.planner_rules.specs.Titles.{pass}
use Rattle.planner_rules.proofs.TitleLaws.{pass_over, pass_none}
use Rattle.planner_titles.proofs.widen_by_part.Goals as goal

pub returns-then-none : goal.returns-then-none
returns-then-none c =
    sym (pass_none c.args.span c.args.merges.firsts.now c.args.merges.lasts.now (sym c.none.ensures ∙ c.if-none.true))

pub loop-first-preserved : goal.loop-first-preserved
unfolding pass
loop-first-preserved c =
    let next = c.in-Some.ensures.steps in
    rw c.widen_to-wide.ensures (rw (next.0, next.1) at c.loop-first.invariant)

pub returns : goal.returns
returns c = sym (pass_over _ _ _ (either_empty_from_Zip _ c.next.new.self _ c.in-None.is c.next.ensures.steps)) ∙ c.loop-first.invariant
