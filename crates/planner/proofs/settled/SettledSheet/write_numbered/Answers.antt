-- 10 and 14 refuse, and else the area with the number is written.
use Rattle.std.proofs.Common.{◌≡◌, suc, ◌-◌, ◌<◌, ◌≤◌, length, get_or, sym, arith, rules}
use Rattle.units.specs.Outcome.{refused}
use Rattle.units.specs.Refusals.{outcome}
use Rattle.planner_rules.specs.Steps.{sides_in}
use Rattle.planner_rules.specs.Areas.{no_range}
use Rattle.planner_rules.proofs.PlanLaws.{refuses_area, relay_area, no_permille, number_zero, number_past, number_is}
use Rattle.planner.proofs.settled.SettledSheet.write_numbered.Goals as goal

pub returns-then-permille-eq0 : goal.returns-then-permille-eq0
returns-then-permille-eq0 c =
    let a = c.args in
    refuses_area _ 10 a.row_runs.now a.column_runs.now
    (no_permille (sides_in a.self.now.shared.now) _ a.self.now.areas.now a.number a.permille a.row_runs.now a.column_runs.now c.if-permille-eq0.true)

pub returns-in_err-place : goal.returns-in_err-place
returns-in_err-place c =
    let a = c.args in
    let zero : a.number ≡ 0 = grind arith in
    let e : outcome c.from_residual.result ≡ refused 14 = search rules in
    rw e (refuses_area _ 14 a.row_runs.now a.column_runs.now
    (number_zero (sides_in a.self.now.shared.now) _ a.self.now.areas.now a.number a.permille a.row_runs.now a.column_runs.now
    (omega (arith, c.if-permille-eq0.false)) zero))

pub returns-in_err-range : goal.returns-in_err-range
returns-in_err-range c =
    let a = c.args in
    let low : 1 ≤ a.number = grind arith in
    let place : c.in_ok-place.place ≡ a.number - 1 = grind arith in
    let past : length a.self.now.areas.now ≤ c.in_ok-place.place = grind arith in
    let e : outcome c.from_residual-in_err-range.result ≡ refused 14 = search rules in
    rw e (refuses_area _ 14 a.row_runs.now a.column_runs.now
    (number_past (sides_in a.self.now.shared.now) _ a.self.now.areas.now a.number a.permille a.row_runs.now a.column_runs.now
    (omega (arith, c.if-permille-eq0.false)) (omega (arith, low, place, past))))

pub ready-requires : goal.ready-requires
ready-requires c =
    let areas = c.args.self.now.areas.now in
    let place = c.in_ok-place.place in
    let found : (place < length areas) × (c.in_ok-range.range.now ≡ get_or areas place no_range) = grind arith in
    record { fine_area = rw found.1 (c.args.self.now.fine.each place found.0) }

pub returns : goal.returns
returns c =
    let a = c.args in
    let areas = a.self.now.areas.now in
    let place = c.in_ok-place.place in
    let low : 1 ≤ a.number = grind arith in
    let place_is : place ≡ a.number - 1 = grind arith in
    let found : (place < length areas) × (c.in_ok-range.range.now ≡ get_or areas place no_range) = grind arith in
    let n : a.number ≡ suc place = omega (arith, low, place_is) in
    let e = number_is (sides_in a.self.now.shared.now) _ areas a.number a.permille a.row_runs.now a.column_runs.now
    (omega (arith, c.if-permille-eq0.false)) place _ n found.0 found.1 in
    let of = c.ready.ensures in
    relay_area _ _ _ _ _ _ _ (sym e) (rw (of.sheet_is, of.range_is) at c.write_at.ensures)
