-- A run ends where the merge step leaves what filling and the title took.
use Rattle.std.proofs.Common.{◌≡◌, ℕ, ◌≤◌, List, length, sym, ap, subst, ◌∙◌, arith}
use Rattle.planner_rules.specs.declared.runs.Frame.{Frame}
use Rattle.planner_rules.specs.declared.runs.RunEnd.{RunEnd}
use Rattle.planner_rules.specs.Runs.{natural, filled, merged, run_end}
use Rattle.planner_rules.proofs.EndLaws.{Within, merged_within}
use Rattle.planner.proofs.runs.Cutter.run_end.Goals as goal

within : (k : Frame) (fs ls : List ℕ) (n : ℕ) (is : List ℕ) (r : RunEnd) → r ≡ merged k.lo k.hi fs ls n is → 1 ≤ n → n ≤ length is → Within is r
within k fs ls n is r e h q = subst (Within is) (sym e) (merged_within k.lo k.hi fs ls n is h q)

pub taken_slots-n-requires : goal.taken_slots-n-requires
unfolding filled
taken_slots-n-requires c =
    let f = c.natural_fill-filling.ensures in
    (f.slots_value ∙ ap (λ (cap : ℕ). natural cap c.args.head.slots.sizes.now) c.capacity_for-capacity.ensures, f.le_slots.1)

pub size_of-requires : goal.size_of-requires
size_of-requires c =
    let t = c.args.self in
    let w = within t.frame t.merges.firsts.now t.merges.lasts.now _ c.args.head.slots.indexes.now _ c.merged_end-end.ensures (omega arith) (omega arith) in
    (omega (arith, w.1, c.args.head.slots.are.even), c.natural_fill-filling.ensures.sum_value)

pub returns-clause-grown_value : goal.returns-clause-grown_value
unfolding run_end
returns-clause-grown_value c =
    let t = c.args.self in
    let cut = λ (n : ℕ). merged t.frame.lo t.frame.hi t.merges.firsts.now t.merges.lasts.now n c.args.head.slots.indexes.now in
    (c.merged_end-end.ensures ∙ ap cut c.taken_slots-n.ensures.value, c.size_of.ensures)

pub returns-clause-le_slots : goal.returns-clause-le_slots
returns-clause-le_slots c =
    let t = c.args.self in
    let w = within t.frame t.merges.firsts.now t.merges.lasts.now _ c.args.head.slots.indexes.now _ c.merged_end-end.ensures (omega arith) (omega arith) in
    (w.0, omega (arith, w.1, c.args.head.slots.are.even))
