-- From each area on the walk ends where it ends from the first on.
use Rattle.std.proofs.Common.{refl, sym, ◌∙◌, arith, ltb-true, ltb-false}
use Rattle.planner_rules.proofs.AreaPages.{walk_end, walk_here, walk_on}
use Rattle.planner_pages.proofs.areas.walk.Goals as goal

pub returns-then-has_more : goal.returns-then-has_more
returns-then-has_more c =
    let l = c.loop-i in
    walk_here c.args.areas.now c.args.before l.i l.rest l.invariant.ends _ (omega arith) refl (ltb-true _ _ (sym c.has_more.ensures ∙ c.if-has_more.true))

pub loop-i-preserved : goal.loop-i-preserved
loop-i-preserved c =
    let l = c.loop-i in
    let few = ltb-false _ _ (sym c.has_more.ensures ∙ c.if-has_more.false) in
    record {
      within = omega arith;
      left = omega arith;
      ends = walk_on c.args.areas.now c.args.before l.i l.rest l.invariant.ends _ (omega arith) refl few;
    }

pub returns : goal.returns
returns c =
    let l = c.loop-i in
    walk_end c.args.areas.now c.args.before l.i l.rest l.invariant.ends (omega arith)
