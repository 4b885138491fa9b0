-- A turn counts the run at the head, and whether it exceeds its page.
use Rattle.std.proofs.Common.{◌≡◌, Bool, false, not, cond, ℕ, List, ◌∷◌, length, get_or, take, sym, ap, ◌∙◌, arith, rules, tests}
use Rattle.planner_rules.specs.declared.runs.RunEnd.{RunEnd}
use Rattle.planner_rules.specs.Slots.{sum}
use Rattle.planner_rules.specs.Runs.{Run, run, runs, expansions}
use Rattle.planner_rules.specs.Scale.{fits_side, printed, space_of}
use Rattle.planner_rules.specs.Pages.{overflowing}
use Rattle.planner_rules.proofs.Laws.{part, length_part, small-take, turn, none}
use Rattle.planner_rules.proofs.TitleLaws.{small-sum}
use Rattle.planner_rules.proofs.EndLaws.{bit_is, bit_not, bit_few}
use Rattle.planner.proofs.runs.Cutter.count_runs.Goals as goal

pub run_fits-requires : goal.run_fits-requires
run_fits-requires c =
    let l = c.loop-head in
    let same : c.in-Some.head.slots ≡ l.rest = search rules in
    let e = c.run_end-size in
    let ends = rw same at e.ensures in
    let n = e.result.end.slots in
    omega (arith, ends.grown_value.1, small-sum (take n l.rest.sizes.now) (small-take n l.rest.sizes.now ends.le_slots.1 l.rest.are.small))

pub loop-head-preserved : goal.loop-head-preserved
unfolding runs run expansions overflowing
loop-head-preserved c =
    let l = c.loop-head in
    let a = c.args in
    let k = a.self.frame in
    let fs = a.self.merges.firsts.now in
    let ls = a.self.merges.lasts.now in
    let same : c.in-Some.head.slots ≡ l.rest = search rules in
    let e = c.run_end-size in
    let ends = rw same at e.ensures in
    let n = e.result.end.slots in
    let is = l.rest.indexes.now in
    let ss = l.rest.sizes.now in
    let page = space_of a.page.side in
    let exceeding = λ (rs : List Run). overflowing page k.title a.page.permille false rs in
    let rest = rw same at c.after-rest.ensures in
    let left : runs k fs ls c.after-rest.result.indexes.now c.after-rest.result.sizes.now ≡ runs k fs ls (part n is) (part n ss) =
    λ i. runs k fs ls (rest.indexes_are i) (rest.sizes_are i) in
    let t = turn (run k fs ls) n is ss l.rest.are (search (rules, tests)) (ap (λ (r : RunEnd). r.slots) ends.grown_value.0)
    ends.le_slots.0 ∙ ap (λ (rs : List Run). run k fs ls is ss ∷ rs) (sym left) in
    let size_is = ends.grown_value.1 ∙ ap (λ (r : RunEnd). sum (take r.slots ss)) ends.grown_value.0 in
    let fitting = λ (m : ℕ). fits_side page a.page.permille (printed page k.title false (get_or is 0 0) m) in
    let exceeds = c.from-overflows.ensures ∙ bit_not _ ∙ ap (λ (b : Bool). cond {A = ℕ} b 0 1) ((rw same at c.run_fits.ensures) ∙ ap fitting size_is) in (
      omega (arith, ap length t, l.invariant.0),
      omega (arith, ap expansions t, ap (λ (r : RunEnd). cond {A = ℕ} r.grown 1 0) ends.grown_value.0, c.from-grown.ensures ∙ bit_is _, l.invariant.1),
      omega (arith, ap exceeding t, exceeds, l.invariant.2),
      omega (arith, ap length rest.sizes_are, length_part n ss, ends.le_slots, l.invariant.3),
      omega (arith, c.from-grown.ensures, bit_few e.result.end.grown, l.invariant.4),
      omega (arith, c.from-overflows.ensures, bit_few (not c.run_fits.result), l.invariant.5),
    )

pub returns-clause-counts : goal.returns-clause-counts
unfolding runs expansions overflowing
returns-clause-counts c =
    let l = c.loop-head in
    let a = c.args in
    let k = a.self.frame in
    let fs = a.self.merges.firsts.now in
    let ls = a.self.merges.lasts.now in
    let exceeding = λ (rs : List Run). overflowing (space_of a.page.side) k.title a.page.permille false rs in
    let z = none (run k fs ls) l.rest.indexes.now l.rest.sizes.now (search (rules, tests)) in
    (omega (arith, ap length z), omega (arith, ap expansions z), omega (arith, ap exceeding z))
