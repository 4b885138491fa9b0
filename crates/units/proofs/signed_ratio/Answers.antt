-- `signed_ratio` returns the ratio of the magnitudes with the sign of z.
use Rattle.std.proofs.Common.{◌≡◌, ℕ, ◌+◌, ◌*◌, ◌/◌, ◌^◌, ◌<◌, ℤ, pos, nat_abs, subst, ap, ◌∙◌, zero-add, w64, SFits, to_z, of_z, rules}
use Rattle.std.specs.Prelude.{Option, Some, None, Result, Ok, Err, SomeIff, ok_or}
use mir.ValLaws.{to_z-of_z}
use Rattle.units.specs.declared.refusal.Refusal.{Refusal}
use Rattle.units.specs.declared.refusal.Refusal.TheVariants.{CoordinateOverflow}
use Rattle.units.specs.Outcome.{refused}
use Rattle.units.specs.Refusals.{number_of}
use Rattle.units.specs.Units.{length_outcome, in_i64}
use Rattle.units.proofs.Signs.{chosen, of_none, tested}
use Rattle.units.proofs.Scaling.{ratio_pos, ratio-neg, ratio_large}
use Rattle.units.proofs.signed_ratio.Goals as goal

-- what `ratio` answers of the magnitude that the machine has, of z itself
answered : (z : ℤ) (k h d m : ℕ) (r q : Option ℕ) → SFits w64 z → m ≡ nat_abs (to_z w64 (of_z w64 z))
    → SomeIff r ((m * k + h) / d < 2 ^ 64) ((m * k + h) / d) → r ≡ q
    → SomeIff q ((nat_abs z * k + h) / d < 2 ^ 64) ((nat_abs z * k + h) / d)
answered z k h d m r q s e f g =
    subst (λ (x : ℕ). SomeIff q ((x * k + h) / d < 2 ^ 64) ((x * k + h) / d)) (e ∙ ap nat_abs (to_z-of_z w64 z s))
    (subst (λ (o : Option ℕ). SomeIff o ((m * k + h) / d < 2 ^ 64) ((m * k + h) / d)) g f)

-- the number of the refusal that `ok_or` makes
error_number : Result ℕ Refusal → ℕ
error_number (Ok n) = 0
error_number (Err e) = number_of e

pub returns-in_err-n : goal.returns-in_err-n
unfolding error_number
returns-in_err-n c =
    let a = c.args in
    let e : length_outcome c.from_residual.result ≡ refused (number_of c.in_err-n.field-0.0) = search rules in
    let none : c.ratio.result ≡ None = c.in_err-n.ensures.ok_part in
    let ten : number_of c.in_err-n.field-0.0 ≡ 10 =
    ap error_number (c.in_err-n.ensures.value ∙ ap (λ (o : Option ℕ). ok_or o CoordinateOverflow) none) in
    e ∙ ap refused ten
    ∙ ratio_large a.z a.k a.h a.d
    (answered a.z a.k a.h a.d c.unsigned_abs.result c.ratio.result None c.ranges.z c.unsigned_abs.ensures.value c.ratio.ensures none)

pub returns-then-z-ge0 : goal.returns-then-z-ge0
returns-then-z-ge0 c =
    let a = c.args in
    let s = c.ranges.z in
    let n = c.in_ok-n.n in
    chosen _ _ _ c.checked_add_unsigned.ensures c.within.ensures
    ∙ ap (λ (x : ℕ). in_i64 (pos x)) (zero-add n)
    ∙ ratio_pos a.z a.k a.h a.d n (tested a.z s c.if-z-ge0.true)
    (answered a.z a.k a.h a.d c.unsigned_abs.result c.ratio.result (Some n) s c.unsigned_abs.ensures.value c.ratio.ensures c.in_ok-n.ensures.ok_part).1

pub returns-else-z-ge0 : goal.returns-else-z-ge0
returns-else-z-ge0 c =
    let a = c.args in
    let s = c.ranges.z in
    let n = c.in_ok-n.n in
    chosen _ _ _ c.checked_sub_unsigned.ensures c.within-else-z-ge0.ensures
    ∙ ap in_i64 (of_none n)
    ∙ ratio-neg a.z a.k a.h a.d n (tested a.z s c.if-z-ge0.false)
    (answered a.z a.k a.h a.d c.unsigned_abs.result c.ratio.result (Some n) s c.unsigned_abs.ensures.value c.ratio.ensures c.in_ok-n.ensures.ok_part).1
