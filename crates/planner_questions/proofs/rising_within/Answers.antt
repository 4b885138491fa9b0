-- Where indexes rise, the last one tells of all.
use Rattle.std.proofs.Common.{◌≡◌, ℕ, ◌-◌, Bool, true, Some, None, List, [], ◌∷◌, leb, length, refl, sym, ◌∙◌, arith, rules, tests}
use Rattle.std.proofs.lemmas.Option.{slice_get-get_or}
use Rattle.std.specs.List.{slice_get}
use Rattle.planner_rules.specs.Questions.{rising, all_within, rising_within}
use Rattle.planner_rules.proofs.QuestionLaws.{within_last}
use Rattle.planner_questions.proofs.rising_within.Goals as goal

by_last : (limit : ℕ) (is : List ℕ) (r : Bool) → rising is ≡ true → (slice_get is (length is - 1) ≡ None → r ≡ true)
    → ((x : ℕ) → slice_get is (length is - 1) ≡ Some x → r ≡ leb x limit) → r ≡ rising_within limit is
unfolding rising_within all_within rising
by_last limit [] r h none some = none refl
by_last limit (i ∷ is) r h none some =
    let there = slice_get-get_or (i ∷ is) (length (i ∷ is) - 1) 0 (omega arith) in
    rw h (some _ there ∙ within_last limit (i ∷ is) h (omega arith))

pub returns-then-strictly_rising : goal.returns-then-strictly_rising
returns-then-strictly_rising c =
    by_last c.args.limit c.args.indexes.now _ (sym c.strictly_rising.ensures ∙ c.if-strictly_rising.true) (λ e. search (rules, tests))
    (λ x e. search (rules, tests))

pub returns-else-strictly_rising : goal.returns-else-strictly_rising
unfolding rising_within
returns-else-strictly_rising c = rw (← c.strictly_rising.ensures, c.if-strictly_rising.false)
