-- A part of the merges makes of what was found behind it what all from its start on make; one in which none holds changes nothing.
use Rattle.std.proofs.Common.{◌≡◌, [], ◌++◌, length, take, length-take, append-nil, refl, sym, ap, ◌∙◌, inl, inr, arith, rules}
use Rattle.std.specs.Iterator.Adapters.{zip_first, zip_second}
use Rattle.std.specs.Slice.Iter.{rchunks_rest}
use Rattle.planner_rules.specs.Runs.{holding, holding_onto}
use Rattle.planner_rules.proofs.MergeLaws.{onto_free, holding_even, holding_append, one_part, parts_even, none_before}
use Rattle.planner_cuts.proofs.merges.holding_merge.Goals as goal

pub loop-firsts-init : goal.loop-firsts-init
unfolding holding
loop-firsts-init c =
    let fs = c.args.merges.firsts.now in
    let ls = c.args.merges.lasts.now in
    let it = c.into_iter-firsts-iterator.result in
    let n = c.min-count.result in
    let f : rchunks_rest (zip_first it) ≡ take n fs = search rules in
    let l : rchunks_rest (zip_second it) ≡ take n ls = search rules in (
      search rules,
      search rules,
      omega (arith, ap length f, ap length l, length-take n fs, length-take n ls, c.min-count.ensures),
      ([], [], sym f ∙ sym (append-nil _), sym l ∙ sym (append-nil _), refl),
    )

pub loop-firsts-preserved-then-not-none : goal.loop-firsts-preserved-then-not-none
loop-firsts-preserved-then-not-none c =
    let a = c.args in
    let i = c.loop-firsts.invariant in
    let s = c.in-Some.ensures.steps in
    let p = c.in-Some.firsts.now in
    let q = c.in-Some.lasts.now in
    let even = parts_even _ _ _ _ _ _ p q i.0 i.1 i.2 s.0.1.0 s.0.1.1 s.1.1.0 s.1.1.1 in
    let onto = holding_onto a.clip.first a.clip.last a.b p q in
    let held = c.earliest_of-held.ensures ∙ ap onto i.3.4 ∙ holding_append a.clip.first a.clip.last a.b p q i.3.0 i.3.1 even.0 in
    (s.0.0 ∙ i.0, s.1.0 ∙ i.1, even.1, (p ++ i.3.0, q ++ i.3.1, one_part _ _ _ _ _ i.3.2 s.0.1.0, one_part _ _ _ _ _ i.3.3 s.1.1.0, held))

pub loop-firsts-preserved : goal.loop-firsts-preserved
loop-firsts-preserved c =
    let a = c.args in
    let i = c.loop-firsts.invariant in
    let s = c.in-Some.ensures.steps in
    let p = c.in-Some.firsts.now in
    let q = c.in-Some.lasts.now in
    let even = parts_even _ _ _ _ _ _ p q i.0 i.1 i.2 s.0.1.0 s.0.1.1 s.1.1.0 s.1.1.1 in
    let free = onto_free a.clip.first a.clip.last a.b c.loop-firsts.held p q (sym c.none.ensures ∙ c.if-not-none.false) in
    let onto = holding_onto a.clip.first a.clip.last a.b p q in
    let held = sym free ∙ ap onto i.3.4 ∙ holding_append a.clip.first a.clip.last a.b p q i.3.0 i.3.1 even.0 in
    (s.0.0 ∙ i.0, s.1.0 ∙ i.1, even.1, (p ++ i.3.0, q ++ i.3.1, one_part _ _ _ _ _ i.3.2 s.0.1.0, one_part _ _ _ _ _ i.3.3 s.1.1.0, held))

pub returns : goal.returns
returns c =
    let a = c.args in
    let i = c.loop-firsts.invariant in
    let it = c.loop-firsts.firsts-iterator in
    let z : length (rchunks_rest (zip_first it)) ≡ 0 = elim c.in-None.ensures.steps [ inl u ↦ u.1.1.0 | inr u ↦ i.2 ∙ u.1.1.0 ] in
    let f = none_before (rchunks_rest (zip_first it)) i.3.0 _ z i.3.2 in
    let l = none_before (rchunks_rest (zip_second it)) i.3.1 _ (sym i.2 ∙ z) i.3.3 in
    i.3.4 ∙ (λ j. holding a.clip.first a.clip.last a.b (f j) (l j))
    ∙ holding_even a.clip.first a.clip.last a.b c.min-count.result a.merges.firsts.now a.merges.lasts.now c.min-count.ensures
