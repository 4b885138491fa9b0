-- The sums are those of all areas.
use Rattle.std.proofs.Common.{rules, tests, ◌≡◌, refl, sym, ◌∙◌, ℕ, List}
use Rattle.std.specs.List.{sum_by}
use Rattle.std.proofs.lemmas.List.Recursion.{is_sum_by}
use Rattle.std.proofs.lemmas.Iterator.{YieldsList-from_slice, YieldsList-from_map}
use Rattle.std.proofs.lemmas.Iterator.Consumers.{fits_by_from_yields_list, sum_by_from_yields_List}
use Rattle.planner_rules.specs.declared.pages.AreaPlan.{AreaPlan}
use Rattle.planner_rules.specs.Areas.{over_areas}
use Rattle.planner_pages.proofs.areas.runs_of.Goals as goal

sums : (f : AreaPlan → ℕ) (areas : List AreaPlan) → over_areas f areas ≡ sum_by f areas
unfolding over_areas
sums f areas = is_sum_by (over_areas f) f refl (λ _ _. refl) areas

pub sum-requires-clause-fits : goal.sum-requires-clause-fits
sum-requires-clause-fits c =
    let all = c.args.areas.now in
    fits_by_from_yields_list (λ (a : AreaPlan). a.row_runs) all c.map.result _
    (YieldsList-from_map _ (λ (a : AreaPlan). a.row_runs) (YieldsList-from_slice all cc) c.map.ensures.closure (λ x r q k. search (rules, tests)))
    (rw (sums (λ (a : AreaPlan). a.row_runs) all) at c.requires.rows_fit)

pub sum-requires-2-clause-fits : goal.sum-requires-2-clause-fits
sum-requires-2-clause-fits c =
    let all = c.args.areas.now in
    fits_by_from_yields_list (λ (a : AreaPlan). a.column_runs) all c.map-2.result _
    (YieldsList-from_map _ (λ (a : AreaPlan). a.column_runs) (YieldsList-from_slice all cc) c.map-2.ensures.closure (λ x r q k. search (rules, tests)))
    (rw (sums (λ (a : AreaPlan). a.column_runs) all) at c.requires.columns_fit)

pub returns : goal.returns
returns c =
    let all = c.args.areas.now in (
      sum_by_from_yields_List (λ (a : AreaPlan). a.row_runs) all c.map.result _ c.sum.ensures.ran
          (YieldsList-from_map _ (λ (a : AreaPlan). a.row_runs) (YieldsList-from_slice all cc) c.map.ensures.closure (λ x r q k. search (rules, tests)))
          ∙ sym (sums (λ (a : AreaPlan). a.row_runs) all),
      sum_by_from_yields_List (λ (a : AreaPlan). a.column_runs) all c.map-2.result _ c.sum-2.ensures.ran
          (YieldsList-from_map _ (λ (a : AreaPlan). a.column_runs) (YieldsList-from_slice all cc) c.map-2.ensures.closure (λ x r q k. search (rules, tests)))
          ∙ sym (sums (λ (a : AreaPlan). a.column_runs) all),
    )
