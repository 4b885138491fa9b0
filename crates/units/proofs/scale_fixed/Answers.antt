-- `scale_fixed` returns the signed ratio with half of 1,000 added, which rounds halves away from zero.
use Rattle.std.proofs.Common.{ℤ, ap, ◌∙◌, w64, SFits, rules}
use mir.ValLaws.{to_z-of_z}
use Rattle.units.specs.Units.{in_i64, signed_ratio}
use Rattle.units.proofs.Scaling.{scaled}
use Rattle.units.proofs.scale_fixed.Goals as goal

pub returns : goal.returns
returns c =
    let a = c.args in
    let z = a.size.0 in
    let s : SFits w64 z = search rules in
    c.signed_ratio.ensures ∙ ap (λ (y : ℤ). in_i64 (signed_ratio y a.permille 500 1000)) (to_z-of_z w64 z s) ∙ scaled z a.permille
