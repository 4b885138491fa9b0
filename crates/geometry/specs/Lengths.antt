-- Six margins in units, as the code has them at hand. Assumes nothing.
use Rattle.std.specs.Prelude.{ℤ, Float, Result, Ok, Err}
use Rattle.units.specs.declared.refusal.Refusal.{Refusal}
use Rattle.units.specs.Outcome.{Outcome, given, refused, and_then}
use Rattle.units.specs.Refusals.{number_of}
use Rattle.units.specs.Units.{inches_to_fixed}
use Rattle.units.specs.declared.Fixed.{Fixed}
use Rattle.units.specs.declared.margins.Margins.{Margins}

-- "Six margins travel together": the six, or the first refusal among them
abbrev pub together : Outcome ℤ → Outcome ℤ → Outcome ℤ → Outcome ℤ → Outcome ℤ → Outcome ℤ → Outcome (Margins ℤ)
together left right top bottom header footer =
    and_then left (λ (l : ℤ). and_then right (λ (r : ℤ). and_then top (λ (t : ℤ).
    and_then bottom (λ (b : ℤ). and_then header (λ (h : ℤ). and_then footer (λ (f : ℤ).
    given (record { left = l; right = r; top = t; bottom = b; header = h; footer = f })))))))

-- six margins in units
abbrev pub in_units : Margins Float → Outcome (Margins ℤ)
in_units m =
    together (inches_to_fixed m.left) (inches_to_fixed m.right) (inches_to_fixed m.top) (inches_to_fixed m.bottom)
    (inches_to_fixed m.header) (inches_to_fixed m.footer)

-- the lengths or the number that an answer of six margins stands for
abbrev pub margins_outcome : Result (Margins Fixed) Refusal → Outcome (Margins ℤ)
margins_outcome (Ok m) =
    given (record { left = m.left.0; right = m.right.0; top = m.top.0; bottom = m.bottom.0; header = m.header.0; footer = m.footer.0 })
margins_outcome (Err r) = refused (number_of r)
