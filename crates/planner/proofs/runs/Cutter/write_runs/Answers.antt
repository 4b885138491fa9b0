-- In a turn there is room for the run at the head, and the runs after it are left.
use Rattle.std.proofs.Common.{◌≡◌, cond, ℕ, ◌+◌, ◌-◌, ◌≤◌, List, ◌∷◌, length, get_or, take, refl, sym, ap, subst, ◌∙◌, arith, rules, tests}
use Rattle.planner_rules.specs.declared.runs.RunEnd.{RunEnd}
use Rattle.planner_rules.specs.Slots.{sum}
use Rattle.planner_rules.specs.Runs.{Run, run, runs, first_marked, with_mark}
use Rattle.planner_rules.specs.Lent.{Room}
use Rattle.planner_rules.proofs.Lent.{Writing, writing_one, writing_done, flat-length}
use Rattle.planner_rules.proofs.AxisLaws.{turn_marked, none_marked, some_marked}
use Rattle.planner.proofs.runs.Cutter.write_runs.Goals as goal

room : (whole : List Run) (old : List ℕ) (at : ℕ) (left : List Run) (new : List ℕ) → Room whole old → Writing whole old at left new → 1 ≤ length left
    → at + 4 ≤ length new
room whole old at left new h w q = omega (arith, h, w.counted, w.so.long, flat-length left, q)

pub put_run-at-requires : goal.put_run-at-requires
put_run-at-requires c =
    let l = c.loop-head in
    let a = c.args in
    let k = a.self.frame in
    let fs = a.self.merges.firsts.now in
    let ls = a.self.merges.lasts.now in
    room _ _ _ _ _ c.requires.room l.invariant
    (some_marked k fs ls (cond l.manual 1 0) l.rest.indexes.now l.rest.sizes.now (search (rules, tests)) l.rest.are.even)

pub loop-head-preserved : goal.loop-head-preserved
unfolding run
loop-head-preserved c =
    let l = c.loop-head in
    let a = c.args in
    let k = a.self.frame in
    let fs = a.self.merges.firsts.now in
    let ls = a.self.merges.lasts.now in
    let same : c.in-Some.head.slots ≡ l.rest = search rules in
    let e = c.run_end-size in
    let ends = rw same at e.ensures in
    let n = e.result.end.slots in
    let slots_are = ap (λ (r : RunEnd). r.slots) ends.grown_value.0 in
    let is = l.rest.indexes.now in
    let ss = l.rest.sizes.now in
    let whole = first_marked (cond a.mark 1 0) (runs k fs ls a.slots.indexes.now a.slots.sizes.now) in
    let rest = rw same at c.after-rest.ensures in
    let next = c.after-rest.result in
    let left = first_marked 0 (runs k fs ls next.indexes.now next.sizes.now) in
    let here = with_mark (cond l.manual 1 0) (run k fs ls is ss) in
    let last_is = ap (λ (m : ℕ). get_or is (m - 1) 0) slots_are in
    let size_is = ends.grown_value.1 ∙ ap (λ (m : ℕ). sum (take m ss)) slots_are in
    let more = turn_marked k fs ls (cond l.manual 1 0) n is ss l.rest.are (search (rules, tests)) slots_are ends.le_slots.0
    ∙ (λ i. here ∷ first_marked 0 (runs k fs ls (sym rest.indexes_are i) (sym rest.sizes_are i))) in
    let some = some_marked k fs ls (cond l.manual 1 0) is ss (search (rules, tests)) l.rest.are.even in
    rw c.put_run-at.ensures.value
    (writing_one whole a.list.now l.at here left l.list _ _ _ _ _ refl last_is size_is refl
    (room _ _ _ _ _ c.requires.room l.invariant some) (rw same at c.put_run-at.ensures.list_after)
    (subst (λ (rs : List Run). Writing whole a.list.now l.at rs l.list) more l.invariant))

pub returns : goal.returns
returns c =
    let l = c.loop-head in
    let a = c.args in
    let k = a.self.frame in
    let fs = a.self.merges.firsts.now in
    let ls = a.self.merges.lasts.now in
    let z = none_marked k fs ls (cond l.manual 1 0) l.rest.indexes.now l.rest.sizes.now (search (rules, tests)) in
    writing_done _ _ l.at l.list (rw z at l.invariant)
