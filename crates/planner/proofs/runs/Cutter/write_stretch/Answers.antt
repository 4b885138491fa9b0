-- A part is lent, and comes back with the runs at its front.
use Rattle.std.proofs.Common.{arith}
use Rattle.planner_rules.specs.Runs.{stretch}
use Rattle.planner_rules.specs.Lent.{Written, flat}
use Rattle.planner_rules.proofs.Laws.{part, length_part}
use Rattle.planner_rules.proofs.Lent.{put_rest}
use Rattle.planner.proofs.runs.Cutter.write_stretch.Goals as goal

pub write_runs-requires : goal.write_runs-requires
unfolding stretch
write_runs-requires c =
    let a = c.args in
    rw (c.part.ensures.indexes_are, c.part.ensures.sizes_are, c.mark_of.ensures) (omega (arith, c.requires.room_at, length_part a.at a.list.now))

pub returns : goal.returns
unfolding stretch
returns c =
    let a = c.args in
    let k = a.self.frame in
    let fs = a.self.merges.firsts.now in
    let ls = a.self.merges.lasts.now in
    let here = stretch k fs ls a.slots.indexes.now a.slots.sizes.now a.a a.e in
    let r : Written here c.write_runs.result (part a.at a.list.now) _ =
    rw (c.part.ensures.indexes_are, c.part.ensures.sizes_are, c.mark_of.ensures) at c.write_runs.ensures in
    record { count = r.count; list_is = put_rest a.at (flat here) a.list.now _ r.list_is }
