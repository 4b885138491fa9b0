-- A turn takes the run at the head of the slots that are left, which fits or gives the answer.
use Rattle.std.proofs.Common.{◌≡◌, ℕ, ◌+◌, ◌<◌, ◌≤◌, List, ◌∷◌, true, false, get_or, take, length, sym, ap, ◌∙◌, arith, rules, tests}
use Rattle.planner_rules.specs.declared.titles.Title.{Title}
use Rattle.planner_rules.specs.declared.runs.RunEnd.{RunEnd}
use Rattle.planner_rules.specs.declared.runs.Frame.{Frame}
use Rattle.planner_rules.specs.Slots.{Slots, sum}
use Rattle.planner_rules.specs.Runs.{run_end, run, runs}
use Rattle.planner_rules.specs.Scale.{Space, fits_side, printed, rendered, space_of, titled}
use Rattle.planner_rules.proofs.Laws.{part, length_part, small-take, turn, none, some}
use Rattle.planner_rules.proofs.TitleLaws.{small-sum}
use Rattle.planner_rules.proofs.ScaleLaws.{pass_from, too_many, one_out, one_in, all_in}
use Rattle.planner.proofs.scale.runs_pass.Goals as goal

-- the run at the head, and what is asked of it and of the runs after it
module _ (k : Frame) (fs ls is ss : List ℕ) (y : Slots is ss) (h : 0 < length ss) (d : RunEnd) (e : d ≡ run_end k fs ls is ss) (q : 1 ≤ d.slots) where
  whole : runs k fs ls is ss ≡ run k fs ls is ss ∷ runs k fs ls (part d.slots is) (part d.slots ss)
  unfolding runs run
  whole = turn (run k fs ls) d.slots is ss y h (ap (λ (r : RunEnd). r.slots) e) q

  module _ (s : Space) (title : Title) (target p count size : ℕ) (z : size ≡ sum (take d.slots ss)) where
    asked : fits_side s p (printed s title false (get_or is 0 0) size) ≡ fits_side s p (rendered s (titled title) (run k fs ls is ss))
    unfolding run
    asked = ap (λ (m : ℕ). fits_side s p (printed s title false (get_or is 0 0) m)) (z ∙ ap (λ (r : RunEnd). sum (take r.slots ss)) e)

    out : false ≡ fits_side s p (printed s title false (get_or is 0 0) size) → false ≡ pass_from s (titled title) target p count (runs k fs ls is ss)
    out f = rw whole (one_out s (titled title) target p count _ _ (sym (f ∙ asked)))

    within : true ≡ fits_side s p (printed s title false (get_or is 0 0) size)
        → pass_from s (titled title) target p (count + 1) (runs k fs ls (part d.slots is) (part d.slots ss))
        ≡ pass_from s (titled title) target p count (runs k fs ls is ss)
    within f = rw whole (one_in s (titled title) target p count _ _ (sym (f ∙ asked)))

pub returns-then-not-meets_target : goal.returns-then-not-meets_target
unfolding runs
returns-then-not-meets_target c =
    let a = c.args in
    let k = a.cutter.frame in
    let fs = a.cutter.merges.firsts.now in
    let ls = a.cutter.merges.lasts.now in
    let l = c.loop-head in
    too_many (space_of a.page.side) (titled k.title) a.target a.page.permille l.count (runs k fs ls l.rest.indexes.now l.rest.sizes.now)
    (some (run k fs ls) l.rest.indexes.now l.rest.sizes.now (search (rules, tests)) l.rest.are.even)
    (sym c.if-not-meets_target.ensures) ∙ l.invariant.left

pub run_fits-requires : goal.run_fits-requires
run_fits-requires c =
    let l = c.loop-head in
    let same : c.in-Some.head.slots ≡ l.rest = search rules in
    let r = c.run_end-size in
    let ends = rw same at r.ensures in
    let ss = l.rest.sizes.now in
    omega (
      arith,
      ends.grown_value.1,
      small-sum (take r.result.end.slots ss) (small-take r.result.end.slots ss ends.le_slots.1 c.loop-head.rest.are.small),
    )

pub returns-then-not-run_fits : goal.returns-then-not-run_fits
returns-then-not-run_fits c =
    let a = c.args in
    let k = a.cutter.frame in
    let fs = a.cutter.merges.firsts.now in
    let ls = a.cutter.merges.lasts.now in
    let l = c.loop-head in
    let same : c.in-Some.head.slots ≡ l.rest = search rules in
    let r = c.run_end-size in
    let ends = rw same at r.ensures in
    let out = out k fs ls l.rest.indexes.now l.rest.sizes.now l.rest.are (search (rules, tests)) r.result.end
    ends.grown_value.0 ends.le_slots.0 (space_of a.page.side) k.title a.target a.page.permille l.count r.result.size ends.grown_value.1
    (rw same at c.if-not-run_fits.ensures) in
    out ∙ l.invariant.left

pub loop-head-preserved : goal.loop-head-preserved
loop-head-preserved c =
    let a = c.args in
    let k = a.cutter.frame in
    let fs = a.cutter.merges.firsts.now in
    let ls = a.cutter.merges.lasts.now in
    let l = c.loop-head in
    let same : c.in-Some.head.slots ≡ l.rest = search rules in
    let r = c.run_end-size in
    let ends = rw same at r.ensures in
    let n = r.result.end.slots in
    let next = within k fs ls l.rest.indexes.now l.rest.sizes.now l.rest.are (search (rules, tests)) r.result.end
    ends.grown_value.0 ends.le_slots.0 (space_of a.page.side) k.title a.target a.page.permille l.count r.result.size ends.grown_value.1
    (rw same at c.if-not-run_fits.ensures) in
    let rest = rw same at c.after-rest.ensures in
    let rest_is : runs k fs ls c.after-rest.result.indexes.now c.after-rest.result.sizes.now
    ≡ runs k fs ls (part n l.rest.indexes.now) (part n l.rest.sizes.now) =
    λ i. runs k fs ls (rest.indexes_are i) (rest.sizes_are i) in
    record {
      left = ap (pass_from (space_of a.page.side) (titled k.title) a.target a.page.permille (l.count + 1)) rest_is ∙ next ∙ l.invariant.left;
      met = sym c.if-not-meets_target.ensures;
      few = omega (arith, ap length rest.sizes_are, length_part n l.rest.sizes.now, ends.le_slots, l.invariant.few);
    }

pub returns : goal.returns
unfolding runs
returns c =
    let a = c.args in
    let k = a.cutter.frame in
    let fs = a.cutter.merges.firsts.now in
    let ls = a.cutter.merges.lasts.now in
    let l = c.loop-head in
    let s = space_of a.page.side in
    all_in s (titled k.title) a.target a.page.permille l.count l.invariant.met
    ∙ ap (pass_from s (titled k.title) a.target a.page.permille l.count)
    (sym (none (run k fs ls) l.rest.indexes.now l.rest.sizes.now (search (rules, tests))))
    ∙ l.invariant.left
