-- `first_no` answers the first no: the questions before it are answered yes.
use mathlib.Core.Path.{◌≡◌, sym, ap, ap₂, ◌∙◌}
use mathlib.Core.Bool.{Bool, ◌&&◌}
use Rattle.std.proofs.Common.{rules}
use Rattle.planner_rules.specs.Areas.{one_to_eight}
use Rattle.job_questions.specs.declared.State.{State}
use native.Mathlib.Omega.{arith}
use lib.Dec.{leb}
use borrow.Author.Tests.{leb-true}
use Rattle.job_walk.proofs.WalkLaws.{sorted_first}
use Rattle.job_questions.specs.Pass.{answer}
use Rattle.job_questions.proofs.PassLaws.{no_here, yes_here, none_no, sorted_after, areas_after}
use Rattle.job_questions.proofs.first_no.Goals as goal
use Rattle.std.proofs.lemmas.Bool.{and_parts}

-- question 4, by the test that was made of the areas
placed_right : (t : State) (b : Bool) {v : Bool} → b ≡ one_to_eight t.items.areas → t.ordered && b ≡ v → t.ordered && one_to_eight t.items.areas ≡ v
placed_right t b e h = ap (λ (x : Bool). t.ordered && x) (sym e) ∙ h

pub returns-then-not-t-contains : goal.returns-then-not-t-contains
unfolding answer
returns-then-not-t-contains c = no_here _ _ _ (placed_right c.args.t c.contains.result (search rules) c.if-not-t-contains.true)

pub returns-then-not-t : goal.returns-then-not-t
unfolding answer
returns-then-not-t c =
    let four = placed_right c.args.t c.contains.result (search rules) c.if-not-t-contains.false in
    yes_here _ _ _ _ four (no_here _ _ _ c.if-not-t.true)

pub returns-then-not-equally_long-t : goal.returns-then-not-equally_long-t
unfolding answer
returns-then-not-equally_long-t c =
    let four = placed_right c.args.t c.contains.result (search rules) c.if-not-t-contains.false in
    yes_here _ _ _ _ four (yes_here _ _ _ _ c.if-not-t.false (no_here _ _ _ c.if-not-equally_long-t.true))

pub returns-then-not-t-2 : goal.returns-then-not-t-2
unfolding answer
returns-then-not-t-2 c =
    let four = placed_right c.args.t c.contains.result (search rules) c.if-not-t-contains.false in
    yes_here _ _ _ _ four
    (yes_here _ _ _ _ c.if-not-t.false (yes_here _ _ _ _ c.if-not-equally_long-t.false (no_here _ _ _ c.if-not-t-2.true)))

pub invariant_of-job : goal.invariant_of-job
invariant_of-job c = record { sorted = sorted_first _ (sorted_after c.args.t _ c.requires (and_parts c.args.t.ordered _ c.if-not-t-contains.false).0) }

pub cells_ok-held-requires : goal.cells_ok-held-requires
cells_ok-held-requires c =
    let four = placed_right c.args.t c.contains.result (search rules) c.if-not-t-contains.false in
    let few = and_parts (leb 1 c.args.t.items.areas) (leb c.args.t.items.areas 8) (and_parts c.args.t.ordered _ four).1 in
    omega (arith, areas_after c.args.t _ c.requires, leb-true _ _ few.1)

pub returns-then-not-held : goal.returns-then-not-held
unfolding answer
returns-then-not-held c =
    let four = placed_right c.args.t c.contains.result (search rules) c.if-not-t-contains.false in
    yes_here _ _ _ _ four
    (yes_here _ _ _ _ c.if-not-t.false
    (yes_here _ _ _ _ c.if-not-equally_long-t.false
    (yes_here _ _ _ _ c.if-not-t-2.false (no_here _ _ _ (sym c.cells_ok-held.ensures ∙ c.if-not-held.true)))))

pub returns-then-not-rising : goal.returns-then-not-rising
unfolding answer
returns-then-not-rising c =
    let four = placed_right c.args.t c.contains.result (search rules) c.if-not-t-contains.false in
    let eight = ap₂ ◌&&◌ (sym c.is_some.ensures) (sym c.is_some-2.ensures) ∙ c.if-not-rising.true in
    yes_here _ _ _ _ four
    (yes_here _ _ _ _ c.if-not-t.false
    (yes_here _ _ _ _ c.if-not-equally_long-t.false
    (yes_here _ _ _ _ c.if-not-t-2.false
    (yes_here _ _ _ _ (sym c.cells_ok-held.ensures ∙ search) (no_here _ _ _ eight)))))

pub returns-then-not-t-3 : goal.returns-then-not-t-3
unfolding answer
returns-then-not-t-3 c =
    let four = placed_right c.args.t c.contains.result (search rules) c.if-not-t-contains.false in
    let eight = ap₂ ◌&&◌ (sym c.is_some.ensures) (sym c.is_some-2.ensures) ∙ c.if-not-rising.false in
    yes_here _ _ _ _ four
    (yes_here _ _ _ _ c.if-not-t.false
    (yes_here _ _ _ _ c.if-not-equally_long-t.false
    (yes_here _ _ _ _ c.if-not-t-2.false
    (yes_here _ _ _ _ (sym c.cells_ok-held.ensures ∙ c.if-not-held.false)
    (yes_here _ _ _ _ eight (no_here _ _ _ c.if-not-t-3.true))))))

pub returns : goal.returns
unfolding answer
returns c =
    let four = placed_right c.args.t c.contains.result (search rules) c.if-not-t-contains.false in
    let eight = ap₂ ◌&&◌ (sym c.is_some.ensures) (sym c.is_some-2.ensures) ∙ c.if-not-rising.false in
    yes_here _ _ _ _ four
    (yes_here _ _ _ _ c.if-not-t.false
    (yes_here _ _ _ _ c.if-not-equally_long-t.false
    (yes_here _ _ _ _ c.if-not-t-2.false
    (yes_here _ _ _ _ (sym c.cells_ok-held.ensures ∙ c.if-not-held.false)
    (yes_here _ _ _ _ eight (yes_here _ _ _ _ c.if-not-t-3.false none_no))))))
