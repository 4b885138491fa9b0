-- `ratio` divides a small product as it is, which the check finds alone; of another m it takes the quotient and the remainder by d apart.
use Rattle.std.proofs.Common.{◌<◌, arith}
use Rattle.units.proofs.Division.{past, summed}
use Rattle.units.proofs.ratio.Goals as goal

pub returns-in_err-checked_mul : goal.returns-in_err-checked_mul
returns-in_err-checked_mul c =
    let a = c.args in
    let p : 0 < c.from-d.result = omega (arith, c.requires, c.from-d.ensures) in
    rw (c.from_residual.ensures, ← c.from-k.ensures, ← c.from-h.ensures, ← c.from-d.ensures)
    (past a.m c.from-k.result c.from-h.result c.from-d.result p c.in_err-checked_mul.ensures)

pub returns : goal.returns
returns c =
    let a = c.args in
    let p : 0 < c.from-d.result = omega (arith, c.requires, c.from-d.ensures) in
    rw (← c.from-k.ensures, ← c.from-h.ensures, ← c.from-d.ensures)
    (summed a.m c.from-k.result c.from-h.result c.from-d.result c.in_ok-checked_mul.field-0 c.checked_add.result p
    c.in_ok-checked_mul.ensures.1 c.checked_add.ensures)
