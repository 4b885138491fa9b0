-- What is left begins with the stretch up to the next cut, and in the end is the stretch up to the last slot, with nothing shifted.
use Rattle.std.proofs.Common.{◌≡◌, false, ℕ, ◌+◌, List, length, drop, sym, ap, ◌∙◌, arith, length-append}
use Rattle.planner_rules.specs.declared.scale.PageSide.{PageSide}
use Rattle.planner_rules.specs.declared.runs.Frame.{Frame}
use Rattle.planner_rules.specs.Slots.{mid}
use Rattle.planner_rules.specs.Runs.{Run, axis_runs, shifts, stretch, axis_tally, tallies, runs, expansions}
use Rattle.planner_rules.specs.Scale.{space_of}
use Rattle.planner_rules.specs.Pages.{overflowing}
use Rattle.planner_rules.proofs.AxisLaws.{stretch_length, stretch_expansions, axis_more, axis_end, shifts_more, shifts_end, expansions-append}
use Rattle.planner_rules.proofs.OverflowLaws.{stretch_overflowing, overflowing_append}
use Rattle.std.proofs.lemmas.List.Edits.{length-between}
use Rattle.planner_rules.proofs.EndLaws.{bit_is, bit_few}
use Rattle.planner.proofs.runs.Cutter.count_axis.Goals as goal

-- how many of some runs exceed their page
abbrev exceeding : PageSide → ℕ → Frame → List Run → ℕ
exceeding page permille k rs = overflowing (space_of page) k.title permille false rs

-- what was counted of the runs between two cuts is of the stretch
between : (page : PageSide) (permille : ℕ) (k : Frame) (fs ls is ss : List ℕ) (b e n g o : ℕ) →
    let rs = runs k fs ls (mid b e is) (mid b e ss) in
    let here = stretch k fs ls is ss b e in
    (n ≡ length rs) × (g ≡ expansions rs) × (o ≡ exceeding page permille k rs)
    → (n ≡ length here) × (g ≡ expansions here) × (o ≡ exceeding page permille k here)
between page permille k fs ls is ss b e n g o h = (
  h.0 ∙ sym (stretch_length k fs ls is ss b e),
  h.1 ∙ sym (stretch_expansions k fs ls is ss b e),
  h.2 ∙ sym (stretch_overflowing (space_of page) k.title permille k fs ls is ss b e false),
)

pub loop-b-preserved : goal.loop-b-preserved
loop-b-preserved c =
    let a = c.args in
    let k = a.self.frame in
    let fs = a.self.merges.firsts.now in
    let ls = a.self.merges.lasts.now in
    let is = a.slots.indexes.now in
    let ss = a.slots.sizes.now in
    let l = c.loop-b in
    let t = c.count_runs-t in
    let cut = c.next_cut-cut in
    let p = cut.result.place in
    let bs = a.breaks.now in
    let inside = cut.ensures.prev_le_place in
    let counts = between a.page.side a.page.permille k fs ls is ss l.prev p _ _ _
    (rw (c.part.ensures.indexes_are, c.part.ensures.sizes_are) at t.ensures.counts) in
    let here = stretch k fs ls is ss l.prev p in
    let there = axis_runs k fs ls is ss p (drop (l.b-index + 1) bs) in
    let len = length-between ss l.prev p (omega (arith, inside.1, c.args.slots.are.even)) in
    let more = axis_more k fs ls is ss l.prev l.b-index bs cut.result (omega arith) cut.ensures.value in
    let shifted = shifts_more k fs ls is ss l.prev l.b-index bs cut.result (omega arith) cut.ensures.value in (
      omega (arith, inside.1, c.args.slots.are.even),
      omega (arith, t.ensures.bounds.0, ap length c.part.ensures.sizes_are, len, inside.0, l.invariant.1),
      omega (arith, t.ensures.bounds.1, ap length c.part.ensures.sizes_are, len, inside.0, l.invariant.2),
      omega (arith, t.ensures.bounds.2, ap length c.part.ensures.sizes_are, len, inside.0, l.invariant.3),
      omega (arith, c.from-shifts.ensures, bit_few cut.result.shifted, l.invariant.4),
      omega (arith, ap length more, length-append here there, counts.0, l.invariant.5),
      omega (arith, ap expansions more, expansions-append here there, counts.1, l.invariant.6),
      omega (
        arith,
        ap (exceeding a.page.side a.page.permille k) more,
        overflowing_append (space_of a.page.side) k.title a.page.permille false here there,
        counts.2,
        l.invariant.7,
      ),
      omega (arith, shifted, c.from-shifts.ensures ∙ bit_is _, l.invariant.8),
    )

pub returns-clause-counts : goal.returns-clause-counts
unfolding axis_tally
returns-clause-counts c =
    let a = c.args in
    let k = a.self.frame in
    let fs = a.self.merges.firsts.now in
    let ls = a.self.merges.lasts.now in
    let is = a.slots.indexes.now in
    let ss = a.slots.sizes.now in
    let l = c.loop-b in
    let t = c.count_runs-t-2 in
    let bs = a.breaks.now in
    let counts = between a.page.side a.page.permille k fs ls is ss l.prev (length ss) _ _ _
    (rw (c.part-2.ensures.indexes_are, c.part-2.ensures.sizes_are) at t.ensures.counts) in
    let all = axis_runs k fs ls is ss 0 bs in
    let last = axis_end k fs ls is ss l.prev l.b-index bs (omega arith) in
    let still = shifts_end k fs ls is ss l.prev l.b-index bs (omega arith) in
    let n : l.count + t.result.runs ≡ length all = omega (arith, ap length last, counts.0, l.invariant.5) in
    let g : l.grown + t.result.grown ≡ expansions all = omega (arith, ap expansions last, counts.1, l.invariant.6) in
    let o : l.overflows + t.result.overflows ≡ exceeding a.page.side a.page.permille k all =
    omega (arith, ap (exceeding a.page.side a.page.permille k) last, counts.2, l.invariant.7) in
    let m : l.shifts ≡ shifts k fs ls is 0 bs = omega (arith, still, l.invariant.8) in
    ((λ i. tallies (n i) (g i) (m i)), o)
