-- `less` answers the difference where the library has it, as `in_i64` does.
use Rattle.std.proofs.Common.{ℤ, ◌-ℤ◌, ap, ◌∙◌, w64, rules, to_z, of_z}
use mir.ValLaws.{to_z-of_z}
use Rattle.units.specs.Units.{in_i64}
use Rattle.units.proofs.Signs.{chosen}
use Rattle.units.proofs.Fixed.less.Goals as goal

pub returns : goal.returns
returns c =
    let a = c.args.self.0 in
    let b = c.args.other.0 in
    chosen _ _ _ c.checked_sub.ensures c.within.ensures
    ∙ ap (λ (x : ℤ). in_i64 (x -ℤ to_z w64 (of_z w64 b))) (to_z-of_z w64 a (search rules))
    ∙ ap (λ (y : ℤ). in_i64 (a -ℤ y)) (to_z-of_z w64 b (search rules))
