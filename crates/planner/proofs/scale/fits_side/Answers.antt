-- Whether a size fits is asked of the length that it has when scaled.
use Rattle.std.proofs.Common.{◌≡◌, Bool, false, ℤ, Result, Ok, Err, refl, ap, ◌∙◌, rules, tests}
use Rattle.units.specs.declared.Fixed.{Fixed}
use Rattle.units.specs.declared.refusal.Refusal.{Refusal}
use Rattle.units.specs.Outcome.{Outcome}
use Rattle.units.specs.Units.{length_outcome, scale_fixed}
use Rattle.planner_rules.specs.Scale.{at_most, fits_side}
use Rattle.planner.proofs.scale.fits_side.Goals as goal

by_answer : (r : Result Fixed Refusal) (side : ℤ) (b : Bool) → ((x : Fixed) → r ≡ Ok x → b ≡ at_most (length_outcome (Ok x)) side)
    → ((e : Refusal) → r ≡ Err e → b ≡ false) → b ≡ at_most (length_outcome r) side
by_answer (Ok x) side b there none = there x refl
by_answer (Err e) side b there none = none e refl

pub returns : goal.returns
unfolding fits_side
returns c =
    let side = c.args.page.side.side.0 in
    let e = c.scale_fixed.ensures ∙ ap (λ (z : ℤ). scale_fixed z c.args.page.permille) c.length_of.ensures in
    by_answer c.scale_fixed.result side _ (λ x e. search (rules, tests)) (λ r e. search (rules, tests)) ∙ ap (λ (o : Outcome ℤ). at_most o side) e
