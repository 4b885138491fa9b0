-- The parts of a pass make up the pass; after it the test says whether the pass changed the span, and by that the notes are counted or all ends.
use Rattle.std.proofs.Common.{◌≡◌, ℕ, ◌-◌, true, false, None, List, length, sym, ◌∙◌, ◌⊎◌, inl, inr, arith}
use Rattle.std.specs.declared.iter.Zip.{Zip}
use Rattle.std.specs.declared.slice.Chunks.{Chunks}
use Rattle.std.specs.Iterator.Adapters.{zip_first, zip_second}
use Rattle.std.specs.Slice.Iter.{chunks_rest, chunks_steps}
use Rattle.planner_rules.specs.declared.titles.Span.{Span}
use Rattle.planner_rules.specs.Titles.{pass, same_span, expand}
use Rattle.planner_rules.proofs.TitleLaws.{pass_part, pass_ended, inside_le, still_of, turn_count, turn_less, turn_passes, turn_ends}
use Rattle.planner_titles.proofs.expand_repeat_for_merges.Goals as goal

-- what the inner loop leaves is what the pass makes of the span
passed : (s : Zip (Chunks ℕ) (Chunks ℕ)) (fs ls : List ℕ) (before after : Span)
    → (((u : Chunks ℕ) × chunks_steps (zip_first s) None u) ⊎ ((u : Chunks ℕ) × chunks_steps (zip_second s) None u))
    → pass (chunks_rest (zip_first s)) (chunks_rest (zip_second s)) after ≡ pass fs ls before → after ≡ pass fs ls before
passed s fs ls before after h e =
    sym (pass_ended (chunks_rest (zip_first s)) (chunks_rest (zip_second s)) after (elim h [ inl u ↦ inl u.1.1.0 | inr u ↦ inr u.1.1.0 ])) ∙ e

pub loop-firsts-init : goal.loop-firsts-init
unfolding expand
loop-firsts-init c =
    let z : length c.args.merges.firsts.now - 0 ≡ length c.args.merges.firsts.now = omega arith in
    (omega arith, rw z)

pub loop-firsts-2-preserved : goal.loop-firsts-2-preserved
loop-firsts-2-preserved c =
    let s = c.in-Some.ensures.steps in
    let i = c.loop-firsts-2.invariant in
    let part = pass_part _ _ _ _ _ _ _ _ c.loop-firsts-2.span i.0 i.1 s.0.1.0 s.0.1.1 s.1.1.0 s.1.1.1 in
    (s.0.0 ∙ i.0, s.1.0 ∙ i.1, rw c.widen_by_part-span.ensures (part ∙ i.2))

pub overflow_add-expanded : goal.overflow_add-expanded
overflow_add-expanded c = omega (arith, inside_le c.loop-firsts.span c.args.merges.firsts.now c.args.merges.lasts.now, c.loop-firsts.invariant.0)

pub loop-firsts-smaller : goal.loop-firsts-smaller
unfolding same_span
loop-firsts-smaller c =
    let p = passed c.loop-firsts-2.firsts-iterator _ _ _ _ c.in-None.ensures.steps c.loop-firsts-2.invariant.2 in
    turn_less _ _ _ _ p (still_of _ _ _ _ p _ false c.eq.ensures c.if-eq.false)

pub loop-firsts-preserved : goal.loop-firsts-preserved
unfolding same_span
loop-firsts-preserved c =
    let l = c.loop-firsts in
    let p = passed c.loop-firsts-2.firsts-iterator _ _ _ _ c.in-None.ensures.steps c.loop-firsts-2.invariant.2 in
    let f = still_of _ _ _ _ p _ false c.eq.ensures c.if-eq.false in
    (turn_count _ _ _ _ p l.expanded f l.invariant.0, turn_passes _ _ _ _ p l.expanded f l.invariant.0 ∙ l.invariant.1)

pub returns : goal.returns
unfolding same_span
returns c =
    let l = c.loop-firsts in
    let p = passed c.loop-firsts-2.firsts-iterator _ _ _ _ c.in-None.ensures.steps c.loop-firsts-2.invariant.2 in
    let f = still_of _ _ _ _ p _ true c.eq.ensures c.if-eq.true in
    turn_ends _ _ _ _ p (length c.args.merges.firsts.now - l.expanded) l.expanded f ∙ l.invariant.1
