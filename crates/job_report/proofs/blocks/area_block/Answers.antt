-- The page has a spot and its area's runs are held, or it is refused.
use Rattle.std.proofs.Common.{rules, ◌≡◌, Option, None, Some, Result, Ok, Err, sym, refl, ◌∙◌}
use Rattle.std.specs.Option.{ok_or}
use Rattle.units.specs.declared.refusal.Refusal.{Refusal}
use Rattle.planner_rules.specs.declared.pages.Spot.{Spot}
use Rattle.job_report.proofs.SpotLaws.{spot_within_plan}
use Rattle.job_report.proofs.BlockLaws.{block_nowhere, first_there, block_given, block_refused}
use Rattle.job_report.proofs.blocks.area_block.Goals as goal

-- what `ok_or` tells of the spot
no_spot : (f : Option Spot) (e x : Refusal) {r : Result Spot Refusal} → r ≡ ok_or f e → r ≡ Err x → (f ≡ None) × (x ≡ e)
no_spot None e x i k = let j : Err e ≡ Err x = sym i ∙ k in (refl, cc)
no_spot (Some s) e x i k = let j : Ok s ≡ Err x = sym i ∙ k in absurd cc

a_spot : (f : Option Spot) (e : Refusal) (s : Spot) {r : Result Spot Refusal} → r ≡ ok_or f e → r ≡ Ok s → f ≡ Some s
a_spot None e s i k = let j : Err e ≡ Ok s = sym i ∙ k in absurd cc
a_spot (Some t) e s i k = let j : Ok t ≡ Ok s = sym i ∙ k in cc

pub returns-in_err-spot : goal.returns-in_err-spot
returns-in_err-spot c =
    let none = no_spot _ _ _ c.ok_or.ensures.value c.in_err-spot.was in
    let e : c.from_residual.result ≡ Err c.in_err-spot.field-0.0 = search rules in
    rw (e, none.1) (block_nowhere _ _ _ _ (sym c.page_spot.ensures ∙ none.0) _)

pub area_at-area-requires : goal.area_at-area-requires
area_at-area-requires c = spot_within_plan _ _ _ (sym c.page_spot.ensures ∙ a_spot _ _ _ c.ok_or.ensures.value c.in_ok-spot.was)

pub lines_held-requires : goal.lines_held-requires
lines_held-requires c =
    first_there _ _ _ _ _
    (sym c.page_spot.ensures ∙ a_spot _ _ _ c.ok_or.ensures.value c.in_ok-spot.was)
    _ c.area_at-area.ensures _ c.area_page.ensures _ c.in_ok-_first.was

pub returns-in_err-_first : goal.returns-in_err-_first
returns-in_err-_first c =
    let e : c.from_residual-in_err-_first.result ≡ Err c.in_err-_first.field-0.0 = search rules in
    rw e
    (block_refused _ _ _ _ _
    (sym c.page_spot.ensures ∙ a_spot _ _ _ c.ok_or.ensures.value c.in_ok-spot.was)
    _ c.area_at-area.ensures _ c.area_page.ensures _ c.in_err-_first.was _)

pub returns : goal.returns
returns c =
    block_given _ _ _ _ _
    (sym c.page_spot.ensures ∙ a_spot _ _ _ c.ok_or.ensures.value c.in_ok-spot.was)
    _ c.area_at-area.ensures _ c.area_page.ensures _ c.in_ok-_first.was _ _ _
    c.lines_held.ensures
