-- `shorter` compares with the side itself, and its two float constants are 96 and 1,024.
use Rattle.std.proofs.Common.{◌≡◌, ap, ◌∙◌, w64, SFits, rules}
use lib.Ieee.{of_int, binary64}
use mir.ValLaws.{to_z-of_z}
use Rattle.units.proofs.Constants.{ninety_six, thousand}
use Rattle.geometry.proofs.paper.shorter.Goals as goal

pub returns : goal.returns
returns c =
    let raw = c.raw.result in
    let s : SFits w64 raw = search rules in
    let e : c.nearest_i64_to_f64.result ≡ of_int binary64 c.args.side.0 = c.nearest_i64_to_f64.ensures ∙ ap (of_int binary64)
    (to_z-of_z w64 raw s ∙ c.raw.ensures) in
    rw (e, ninety_six, thousand)
