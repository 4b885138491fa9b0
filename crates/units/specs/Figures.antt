-- The worked figures of document 01, section "Units", computed from the definitions. Assumes nothing.
use Rattle.std.specs.Prelude.{◌≡◌, ◌-◌, ◌^◌, pos, negsuc, refl}
use Rattle.units.specs.Outcome.{given, refused}
use Rattle.units.specs.Units.{scale_fixed, unscaled_capacity, in_i64}

-- "3 at 500 gives 2; -3 gives -2"
scale_3 : scale_fixed (pos 3) 500 ≡ given (pos 2)
unfolding scale_fixed in_i64
scale_3 = refl

scale_minus_3 : scale_fixed (negsuc 2) 500 ≡ given (negsuc 1)
unfolding scale_fixed in_i64
scale_minus_3 = refl

-- "The largest i64 at 1,000 is itself, at 1,001 is refused with 10."
scale_largest : scale_fixed (pos (2 ^ 63 - 1)) 1000 ≡ given (pos (2 ^ 63 - 1))
unfolding scale_fixed in_i64
scale_largest = refl

scale_past : scale_fixed (pos (2 ^ 63 - 1)) 1001 ≡ refused 10
unfolding scale_fixed in_i64
scale_past = refl

-- "Side 600 at 333 gives 1,801; side 10 at 1,000 with titles 5 and headings 6 gives 1."
capacity_600 : unscaled_capacity (pos 600) 333 (pos 0) (pos 0) ≡ given (pos 1801)
unfolding unscaled_capacity in_i64
capacity_600 = refl

capacity_10 : unscaled_capacity (pos 10) 1000 (pos 5) (pos 6) ≡ given (pos 1)
unfolding unscaled_capacity in_i64
capacity_10 = refl
