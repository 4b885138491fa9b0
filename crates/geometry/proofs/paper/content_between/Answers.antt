-- `content_between` returns what the six margins, each in units, leave.
use Rattle.std.proofs.Common.{◌≡◌, ap, ◌∙◌, ℤ, rules}
use Rattle.units.specs.declared.margins.Margins.{Margins}
use Rattle.units.specs.Outcome.{Outcome, refused, and_then}
use Rattle.units.specs.Refusals.{number_of}
use Rattle.units.specs.Units.{inches_to_fixed}
use Rattle.geometry.specs.Paper.{content_between, content_outcome}
use Rattle.geometry.proofs.MarginLaws.{left_by, reordered, ten_inches}
use Rattle.geometry.proofs.paper.content_between.Goals as goal

pub returns : goal.returns
unfolding content_between
returns c =
    let m = c.args.m in
    let w = c.args.paper.width.0 in
    let h = c.args.paper.height.0 in
    let n = c.args.invalid_margins in
    c.content_from.ensures
    ∙ ap (λ (o : Outcome (Margins ℤ)). and_then o (left_by w h n)) c.in_ok-in_units.ensures
    ∙ reordered w h n (inches_to_fixed m.left) (inches_to_fixed m.right) (inches_to_fixed m.top) (inches_to_fixed m.bottom) (inches_to_fixed m.header)
    (inches_to_fixed m.footer) (ten_inches m.right) (ten_inches m.top) (ten_inches m.bottom) (ten_inches m.header) (ten_inches m.footer)

pub returns-in_err-in_units : goal.returns-in_err-in_units
unfolding content_between
returns-in_err-in_units c =
    let m = c.args.m in
    let w = c.args.paper.width.0 in
    let h = c.args.paper.height.0 in
    let n = c.args.invalid_margins in
    let e : content_outcome c.from_residual.result ≡ refused (number_of c.in_err-in_units.field-0.0) = search rules in
    e
    ∙ ap (λ (o : Outcome (Margins ℤ)). and_then o (left_by w h n)) c.in_err-in_units.ensures
    ∙ reordered w h n (inches_to_fixed m.left) (inches_to_fixed m.right) (inches_to_fixed m.top) (inches_to_fixed m.bottom) (inches_to_fixed m.header)
    (inches_to_fixed m.footer) (ten_inches m.right) (ten_inches m.top) (ten_inches m.bottom) (ten_inches m.header) (ten_inches m.footer)
