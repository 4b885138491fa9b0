-- Past the last merge nothing is found, and one merge more is compared with what was found behind it.
use Rattle.std.proofs.Common.{sym, arith}
use Rattle.planner_rules.proofs.MergeLaws.{onto_end, onto_back}
use Rattle.planner_cuts.proofs.merges.earliest_of.Goals as goal

pub loop-i-init : goal.loop-i-init
loop-i-init c =
    let a = c.args in
    let fs = a.merges.firsts.now in
    let ls = a.merges.lasts.now in
    sym (onto_end a.clip.first a.clip.last a.b a.found c.min-i.result fs ls (omega (arith, c.min-i.ensures)))

pub loop-i-preserved : goal.loop-i-preserved
loop-i-preserved c =
    let a = c.args in
    let l = c.loop-i in
    let back = onto_back a.clip.first a.clip.last a.b a.found l.i a.merges.firsts.now a.merges.lasts.now (omega arith) (omega arith) (omega arith) in
    cc
