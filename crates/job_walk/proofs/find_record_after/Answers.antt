-- `find_record_after` answers what it looks for: each turn is a step of the look.
use Rattle.std.proofs.Common.{List, drop, sym, ap, ◌∙◌}
use Rattle.job_records.specs.Marks.{place}
use Rattle.job_records.specs.declared.records.Record.{Record}
use Rattle.job_walk.specs.Walk.{first_of, in_place}
use Rattle.job_walk.proofs.WalkLaws.{look_next, look_end}
use Rattle.job_walk.proofs.find_record_after.Goals as goal

pub returns-then-left-eq0 : goal.returns-then-left-eq0
returns-then-left-eq0 c =
    let k = c.args.wanted in
    let n = c.loop-found.left in
    (look_next k n c.in-Some.found _ (c.place_of-place.ensures ∙ ap place c.mark.ensures)).here c.if-place-wanted-2.true c.if-left-eq0.true
    ∙ ap (λ (rs : List Record). first_of (drop n (in_place k rs))) (sym c.in-Some.ensures.steps)
    ∙ c.loop-found.invariant.2

pub loop-found-preserved-then-place-wanted-2 : goal.loop-found-preserved-then-place-wanted-2
loop-found-preserved-then-place-wanted-2 c =
    let k = c.args.wanted in
    let n = c.loop-found.left in (
      tt,
      tt,
      (look_next k n c.in-Some.found _ (c.place_of-place.ensures ∙ ap place c.mark.ensures)).after c.if-place-wanted-2.true c.if-left-eq0.false
          ∙ ap (λ (rs : List Record). first_of (drop n (in_place k rs))) (sym c.in-Some.ensures.steps)
          ∙ c.loop-found.invariant.2,
    )

pub loop-found-preserved : goal.loop-found-preserved
loop-found-preserved c =
    let k = c.args.wanted in
    let n = c.loop-found.left in (
      tt,
      tt,
      (look_next k n c.in-Some.found _ (c.place_of-place.ensures ∙ ap place c.mark.ensures)).on c.if-place-wanted.false c.if-place-wanted-2.false
          ∙ ap (λ (rs : List Record). first_of (drop n (in_place k rs))) (sym c.in-Some.ensures.steps)
          ∙ c.loop-found.invariant.2,
    )

pub returns-in-None : goal.returns-in-None
returns-in-None c =
    let n = c.loop-found.left in
    look_end c.args.wanted n
    ∙ ap (λ (rs : List Record). first_of (drop n (in_place c.args.wanted rs))) (sym c.in-None.ensures.steps.0)
    ∙ c.loop-found.invariant.2

pub returns-then-place-wanted : goal.returns-then-place-wanted
returns-then-place-wanted c =
    let k = c.args.wanted in
    let n = c.loop-found.left in
    (look_next k n c.in-Some.found _ (c.place_of-place.ensures ∙ ap place c.mark.ensures)).past c.if-place-wanted.true
    ∙ ap (λ (rs : List Record). first_of (drop n (in_place k rs))) (sym c.in-Some.ensures.steps)
    ∙ c.loop-found.invariant.2
