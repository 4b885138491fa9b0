-- `unscaled_capacity` follows the definition, by the outcome of the quotient.
use Rattle.std.proofs.Common.{◌≡◌, ℕ, ℤ, sym, ap, ◌∙◌, w64, SFits, to_z, of_z, rules}
use mir.ValLaws.{to_z-of_z}
use Rattle.units.specs.Outcome.{Outcome, given, refused}
use Rattle.units.specs.Refusals.{number_of}
use Rattle.units.specs.Units.{in_i64, length_outcome, signed_ratio, unscaled_capacity, at_least_one}
use Rattle.units.proofs.Scaling.{capacity_of}
use Rattle.units.proofs.unscaled_capacity.Goals as goal

-- the quotient, of the side itself
whole : (z : ℤ) (p : ℕ) (o : Outcome ℤ) → SFits w64 z → o ≡ in_i64 (signed_ratio (to_z w64 (of_z w64 z)) 1000 0 p) → o ≡ in_i64 (signed_ratio z 1000 0 p)
whole z p o s e = e ∙ ap (λ (y : ℤ). in_i64 (signed_ratio y 1000 0 p)) (to_z-of_z w64 z s)

pub returns-then-permille-eq0 : goal.returns-then-permille-eq0
unfolding unscaled_capacity
returns-then-permille-eq0 c =
    let a = c.args in
    sym (ap (λ (p : ℕ). unscaled_capacity a.side.0 p a.titles.0 a.headings.0) c.if-permille-eq0.true)

pub returns-in_err-whole : goal.returns-in_err-whole
returns-in_err-whole c =
    let a = c.args in
    let s : SFits w64 a.side.0 = search rules in
    let no = refused (number_of c.in_err-whole.field-0.0) in
    let e : length_outcome c.from_residual.result ≡ no = search rules in
    e ∙ capacity_of a.side.0 a.permille a.titles.0 a.headings.0 no c.if-permille-eq0.false
    (whole a.side.0 a.permille no s c.in_err-whole.ensures)

pub returns : goal.returns
returns c =
    let a = c.args in
    let s : SFits w64 a.side.0 = search rules in
    let q = given c.in_ok-whole.whole.0 in
    ap given (c.at_least_one.ensures ∙ ap at_least_one c.less_both.ensures)
    ∙ capacity_of a.side.0 a.permille a.titles.0 a.headings.0 q c.if-permille-eq0.false
    (whole a.side.0 a.permille q s c.in_ok-whole.ensures)
