-- One merge more is asked, and those behind it stay; past the last none is left.
use Rattle.std.proofs.Common.{◌≡◌, [], ◌⊎◌, inl, inr, List, ℕ, refl, arith}
use Rattle.std.proofs.lemmas.List.{drop_more}
use Rattle.planner_rules.proofs.Laws.{run_out, none_asked, none_ended}
use Rattle.planner_rules.proofs.lists.MergeList.none.Goals as goal

pub loop-i-preserved : goal.loop-i-preserved
loop-i-preserved g c =
    let fs = c.args.self.firsts.now in
    let ls = c.args.self.lasts.now in
    let i = c.loop-i.i in
    let p = g.T.MergeTest.says c.args.test.now in
    rw c.says.ensures (none_asked p _ _ _ _ _ _ _ _ (drop_more fs i 0 (omega arith)) (drop_more ls i 0 (omega arith)) c.loop-i.invariant)

pub returns : goal.returns
returns g c =
    let fs = c.args.self.firsts.now in
    let ls = c.args.self.lasts.now in
    let ended = run_out (λ (xs ys : List ℕ). (xs ≡ []) ⊎ (ys ≡ [])) fs ls c.loop-i.i (omega arith) (λ r. inl refl) (λ r. inr refl) in
    none_ended (g.T.MergeTest.says c.args.test.now) _ _ _ _ ended c.loop-i.invariant
