-- One pair more, and none where fewer than two are left.
use Rattle.std.proofs.Common.{ℕ, List, [], ◌∷◌, Bool, true, false, ◌≡◌, ◌≤◌, ◌<◌, ◌&&◌, ltb, length, take, drop, get_or, refl, sym, ap, ◌∙◌, arith}
use Rattle.std.specs.Slice.Iter.{windows_rest}
use Rattle.planner_rules.specs.Questions.{rising}
use Rattle.planner_questions.proofs.strictly_rising.Goals as goal

swapped : (p b r : Bool) → (p && b) && r ≡ b && (p && r)
swapped true b r = refl
swapped false true r = refl
swapped false false r = refl

one_pair : (b : Bool) (xs p r : List ℕ) → 2 ≤ length xs → p ≡ take 2 xs → r ≡ drop 1 xs
    → (ltb (get_or p 0 0) (get_or p 1 0) && b) && rising r ≡ b && rising xs
unfolding rising
one_pair b [] p r h e f = absurd (omega arith)
one_pair b (i ∷ []) p r h e f = absurd (omega arith)
one_pair b (i ∷ (j ∷ is)) p r h e f = rw (e, f) (swapped (ltb i j) b (rising (j ∷ is)))

none_left : (b : Bool) (xs : List ℕ) → length xs < 2 → b && rising xs ≡ b
unfolding rising
none_left true [] h = refl
none_left false [] h = refl
none_left true (i ∷ []) h = refl
none_left false (i ∷ []) h = refl
none_left b (i ∷ (j ∷ is)) h = absurd (omega arith)

pub loop-pair-preserved : goal.loop-pair-preserved
loop-pair-preserved c =
    let i = c.loop-pair.invariant in
    let s = c.in-Some.ensures.steps in (
      s.0 ∙ i.0,
      one_pair c.loop-pair.rises _ c.in-Some.pair.now _ (omega (arith, s.1.0, i.0))
          (s.1.1 ∙ ap (λ (n : ℕ). take n (windows_rest c.loop-pair.pair-iterator)) i.0) s.1.2 ∙ i.1,
    )

pub returns : goal.returns
returns c =
    let i = c.loop-pair.invariant in
    sym (none_left c.loop-pair.rises _ (omega (arith, c.in-None.ensures.steps, i.0))) ∙ i.1
