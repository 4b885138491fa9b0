-- Refused for want of room nothing was written, and else all runs were.
use Rattle.std.proofs.Common.{◌≡◌, length, sym, ap, ◌∙◌, arith}
use Rattle.units.specs.Outcome.{given}
use Rattle.units.specs.declared.refusal.Refusal.TheVariants.{ListTooShort}
use Rattle.planner_rules.specs.declared.runs.Tally.{Tally}
use Rattle.planner_rules.specs.Runs.{axis_runs, axis_tally}
use Rattle.planner_rules.specs.Lent.{room_in}
use Rattle.planner_rules.specs.Partition.{room_for}
use Rattle.planner_rules.proofs.Lent.{room_runs}
use Rattle.planner_rules.proofs.PartitionLaws.{refuses, answers, no_room, room_enough}
use Rattle.planner.proofs.partition.partition_slots.Goals as goal

pub returns-then-tally-room_in : goal.returns-then-tally-room_in
unfolding axis_tally
returns-then-tally-room_in c =
    let a = c.args in
    let all = axis_runs a.cutter.frame a.cutter.merges.firsts.now a.cutter.merges.lasts.now a.slots.indexes.now a.slots.sizes.now 0 a.breaks.now in
    let tally = axis_tally a.cutter.frame a.cutter.merges.firsts.now a.cutter.merges.lasts.now a.slots.indexes.now a.slots.sizes.now a.breaks.now in
    let counted : c.count_axis.result.tally.runs ≡ length all = ap (λ (t : Tally). t.runs) c.count_axis.ensures.counts.0 in
    let l = a.list.now in
    refuses _ all ListTooShort l (no_room all tally (room_in l) (omega (arith, c.if-tally-room_in.true, c.room_in.ensures, counted)))

pub write_axis-requires : goal.write_axis-requires
unfolding axis_tally
write_axis-requires c =
    let a = c.args in
    let all = axis_runs a.cutter.frame a.cutter.merges.firsts.now a.cutter.merges.lasts.now a.slots.indexes.now a.slots.sizes.now 0 a.breaks.now in
    let counted : c.count_axis.result.tally.runs ≡ length all = ap (λ (t : Tally). t.runs) c.count_axis.ensures.counts.0 in
    record { room = room_runs all a.list.now (omega (arith, c.if-tally-room_in.false, c.room_in.ensures, counted)) }

pub returns : goal.returns
unfolding axis_tally
returns c =
    let a = c.args in
    let all = axis_runs a.cutter.frame a.cutter.merges.firsts.now a.cutter.merges.lasts.now a.slots.indexes.now a.slots.sizes.now 0 a.breaks.now in
    let tally = axis_tally a.cutter.frame a.cutter.merges.firsts.now a.cutter.merges.lasts.now a.slots.indexes.now a.slots.sizes.now a.breaks.now in
    let n = c.count_axis in
    let counted : n.result.tally.runs ≡ length all = ap (λ (t : Tally). t.runs) n.ensures.counts.0 in
    let l = a.list.now in
    let r : room_for all tally (room_in l) ≡ given n.result.tally =
    room_enough all tally (room_in l) (omega (arith, c.if-tally-room_in.false, c.room_in.ensures, counted))
    ∙ ap (λ (x : Tally). given x) (sym n.ensures.counts.0) in
    answers _ all n.result.tally _ l _ r c.write_axis.ensures
