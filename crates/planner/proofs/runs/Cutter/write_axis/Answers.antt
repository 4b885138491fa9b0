-- What is left begins with the stretch up to the next cut, and in the end is the stretch up to the last slot.
use Rattle.std.proofs.Common.{◌≡◌, ℕ, ◌+◌, ◌≤◌, ◌<◌, List, [], ◌++◌, length, get_or, drop, sym, subst, ◌∙◌, arith, append-nil}
use Rattle.planner_rules.specs.declared.runs.Frame.{Frame}
use Rattle.planner_rules.specs.declared.runs.Cut.{Cut}
use Rattle.planner_rules.specs.Runs.{Run, next_cut, stretch, axis_runs}
use Rattle.planner_rules.proofs.Lent.{Writing, writing_more, writing_room, writing_done}
use Rattle.planner_rules.proofs.AxisLaws.{axis_more, axis_end}
use Rattle.planner.proofs.runs.Cutter.write_axis.Goals as goal

module _ (k : Frame) (fs ls is ss : List ℕ) (prev j : ℕ) (bs : List ℕ) (whole : List Run) (old : List ℕ) (at : ℕ) (list : List ℕ)
    (w : Writing whole old at (axis_runs k fs ls is ss prev (drop j bs)) list) where
  turning : (c : Cut) → j < length bs → c ≡ next_cut k fs ls is prev (get_or bs j 0)
      → Writing whole old at (stretch k fs ls is ss prev c.place ++ axis_runs k fs ls is ss c.place (drop (j + 1) bs)) list
  turning c h e = subst (λ (left : List Run). Writing whole old at left list) (axis_more k fs ls is ss prev j bs c h e) w

  ending : length bs ≤ j → Writing whole old at (stretch k fs ls is ss prev (length ss) ++ []) list
  ending h =
      subst (λ (left : List Run). Writing whole old at left list)
      (axis_end k fs ls is ss prev j bs h ∙ sym (append-nil (stretch k fs ls is ss prev (length ss)))) w

pub write_stretch-at-requires-clause-room_at : goal.write_stretch-at-requires-clause-room_at
write_stretch-at-requires-clause-room_at c =
    let l = c.loop-b in
    let a = c.args in
    let k = a.self.frame in
    let fs = a.self.merges.firsts.now in
    let ls = a.self.merges.lasts.now in
    let w = turning k fs ls a.slots.indexes.now a.slots.sizes.now l.prev l.b-index a.breaks.now _ _ _ _ l.invariant.1
    c.next_cut-next.result (omega arith) c.next_cut-next.ensures.value in
    writing_room _ _ l.at _ _ _ c.requires.room w

pub loop-b-preserved : goal.loop-b-preserved
loop-b-preserved c =
    let l = c.loop-b in
    let a = c.args in
    let k = a.self.frame in
    let fs = a.self.merges.firsts.now in
    let ls = a.self.merges.lasts.now in
    let w = turning k fs ls a.slots.indexes.now a.slots.sizes.now l.prev l.b-index a.breaks.now _ _ _ _ l.invariant.1
    c.next_cut-next.result (omega arith) c.next_cut-next.ensures.value in (
      omega (arith, c.next_cut-next.ensures.prev_le_place.1, c.args.slots.are.even),
      writing_more _ _ l.at _ _ l.list c.write_stretch-at.result _ (writing_room _ _ l.at _ _ _ c.requires.room w) c.write_stretch-at.ensures w,
    )

pub write_stretch-requires-clause-room_at : goal.write_stretch-requires-clause-room_at
write_stretch-requires-clause-room_at c =
    let l = c.loop-b in
    let a = c.args in
    let k = a.self.frame in
    let fs = a.self.merges.firsts.now in
    let ls = a.self.merges.lasts.now in
    let w = ending k fs ls a.slots.indexes.now a.slots.sizes.now l.prev l.b-index a.breaks.now _ _ _ _ l.invariant.1 (omega arith) in
    writing_room _ _ l.at _ _ _ c.requires.room w

pub returns : goal.returns
returns c =
    let l = c.loop-b in
    let a = c.args in
    let k = a.self.frame in
    let fs = a.self.merges.firsts.now in
    let ls = a.self.merges.lasts.now in
    let w = ending k fs ls a.slots.indexes.now a.slots.sizes.now l.prev l.b-index a.breaks.now _ _ _ _ l.invariant.1 (omega arith) in
    let n = c.write_stretch.result in
    writing_done _ _ (l.at + n) _
    (writing_more _ _ l.at _ _ l.list n _ (writing_room _ _ l.at _ _ _ c.requires.room w) c.write_stretch.ensures w)
