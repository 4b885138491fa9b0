-- A turn counts the area after those that are counted.
use Rattle.std.proofs.Common.{◌≡◌, ℕ, ◌≤◌, ◌<◌, List, length, take, refl, ap, ◌∙◌, arith}
use Rattle.std.proofs.Math.ListN.{length-map, length-take}
use Rattle.std.proofs.Math.Seq.{take_all}
use Rattle.planner_rules.specs.declared.planning.PrintRange.{PrintRange}
use Rattle.planner_rules.specs.declared.planning.CountedAreas.{CountedAreas}
use Rattle.planner_rules.specs.Asked.{sheet_by}
use Rattle.planner_rules.specs.Plan.{Sheet, Sides, plan_in, area_layout, layouts_of}
use Rattle.planner_rules.specs.Steps.{sides_in, counted_of, counted_areas}
use Rattle.planner_rules.proofs.AreasLaws.{few_none, counted_next}
use Rattle.planner.proofs.settled.SettledSheet.count_areas.Goals as goal

module _ (c : Sides) (s : Sheet) (gs : List PrintRange) (k : ℕ) (all : CountedAreas) (e : all ≡ counted_of (layouts_of c s (take k gs))) where
  -- there are as many as were counted
  so_many : k < length gs → length gs ≤ 8 → counted_areas all < 8
  so_many h few =
      let ls = layouts_of c s (take k gs) in
      omega (arith, ap counted_areas e, length-map ls plan_in, length-map (take k gs) (area_layout c s), length-take k gs)

  -- and past the last all are
  all_counted : length gs ≤ k → all ≡ counted_of (layouts_of c s gs)
  all_counted h = e ∙ ap (λ (xs : List PrintRange). counted_of (layouts_of c s xs)) (take_all k gs h)

pub loop-range-init : goal.loop-range-init
loop-range-init c = record { within = omega arith; counted = c.no_areas-all.ensures; few = rw c.no_areas-all.ensures few_none }

pub ready-requires : goal.ready-requires
ready-requires c = record { fine_area = c.args.self.now.fine.each c.loop-range.range-index (omega arith) }

pub add_area-requires-clause-room : goal.add_area-requires-clause-room
add_area-requires-clause-room c =
    let a = c.args.self.now in
    so_many (sides_in a.shared.now) (sheet_by a.shared.now a.lists.now) a.areas.now c.loop-range.range-index _ c.loop-range.invariant.counted (omega arith)
    a.fine.few

pub add_area-requires-clause-few_all : goal.add_area-requires-clause-few_all
add_area-requires-clause-few_all c = (c.loop-range.invariant.few, c.count.ensures.few)

pub loop-range-preserved : goal.loop-range-preserved
loop-range-preserved c =
    let a = c.args.self.now in
    let l = c.loop-range in
    let of = c.ready.ensures in
    record {
      within = omega arith;
      counted =
          counted_next (sides_in a.shared.now) _ a.areas.now l.range-index _ (omega arith) refl l.all _ _ l.invariant.counted
          (rw (of.sheet_is, of.range_is) at c.count.ensures.counted) c.add_area.ensures.added;
      few = c.add_area.ensures.few_added;
    }

pub returns : goal.returns
returns c =
    let a = c.args.self.now in
    all_counted (sides_in a.shared.now) (sheet_by a.shared.now a.lists.now) a.areas.now c.loop-range.range-index _ c.loop-range.invariant.counted (omega arith)
