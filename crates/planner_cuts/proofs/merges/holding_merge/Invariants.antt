-- The parts come from the back: what is held is the definition at the merges that came.
use Rattle.std.proofs.Common.{◌≡◌, List, ℕ, ◌++◌, length, take}
use Rattle.std.specs.Iterator.Adapters.{zip_first, zip_second}
use Rattle.std.specs.Slice.Iter.{rchunks_rest, rchunks_size}
use Rattle.planner_rules.specs.Runs.{holding}
use Rattle.planner_cuts.proofs.merges.holding_merge.Given as goal

abbrev pub invariant-loop-firsts : goal.invariant-loop-firsts
invariant-loop-firsts l =
    let fs = zip_first l.firsts-iterator in
    let ls = zip_second l.firsts-iterator in
    (rchunks_size fs ≡ 32) × (rchunks_size ls ≡ 32) × (length (rchunks_rest fs) ≡ length (rchunks_rest ls))
    × ((gs : List ℕ) × (ms : List ℕ) × (take l.count l.merges.firsts.now ≡ rchunks_rest fs ++ gs)
    × (take l.count l.merges.lasts.now ≡ rchunks_rest ls ++ ms) × (l.held ≡ holding l.clip.first l.clip.last l.b gs ms))
