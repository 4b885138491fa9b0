-- The numbers of a plan stand for the plan, and what the code makes of numbers and of answers. Assumes nothing.
use mathlib.Core.Path.{◌≡◌, refl}
use mathlib.Core.Bool.{Bool, true, false}
use mathlib.Core.List.{List, [], ◌∷◌, ◌++◌}
use Prim.Native.Nat.{ℕ, zero, suc, ◌+◌, ◌*◌, ◌<◌, min}
use native.Mathlib.Omega.{arith}
use lib.ListN.{length, replicate}
use borrow.Rule.Slice.PartMut.{put_mid}
use mir.Val.{bool_byte}
use Rattle.planner_rules.specs.declared.pages.PageOrder.{PageOrder}
use Rattle.planner_rules.specs.declared.pages.PageOrder.TheVariants.{DownThenOver, OverThenDown}
use Rattle.planner_rules.specs.declared.pages.AreaPlan.{AreaPlan}
use Rattle.planner_rules.specs.declared.pages.Plan.{Plan}
use Rattle.yuzhbani_answers.specs.Numbers.{bit, area_at, eight_areas, order_number, is_set, order_from, plan_numbers, area_from}
use Rattle.planner_rules.specs.Pages.{note_numbers}
use Rattle.yuzhbani_answers.specs.Numbers.{area_numbers, numbers_up_to}
use Rattle.yuzhbani_answers.specs.Numbers.{areas_from, plan_from, AreaBack, AllBack}

bit_back : (b : Bool) → is_set (bit b) ≡ b
bit_back true = refl
bit_back false = refl

order_back : (o : PageOrder) → order_from (order_number o) ≡ o
order_back DownThenOver = refl
order_back OverThenDown = refl

low : (n : ℕ) → n < 65536 → min n 65535 ≡ n
low n h = omega arith

-- an area whose permille is within u16 is had back
pub area_back : (a : AreaPlan) → a.permille < 65536 → AreaBack a
unfolding area_from
area_back a h = rw (low a.permille h, bit_back a.rows_empty, bit_back a.columns_empty)

-- eight areas are all of eight
eight_are : (as' : List AreaPlan) → length as' ≡ 8 → eight_areas as' ≡ as'
eight_are [] h = absurd (omega arith)
eight_are (a ∷ []) h = absurd (omega arith)
eight_are (a ∷ b ∷ []) h = absurd (omega arith)
eight_are (a ∷ b ∷ c ∷ []) h = absurd (omega arith)
eight_are (a ∷ b ∷ c ∷ d ∷ []) h = absurd (omega arith)
eight_are (a ∷ b ∷ c ∷ d ∷ e ∷ []) h = absurd (omega arith)
eight_are (a ∷ b ∷ c ∷ d ∷ e ∷ f ∷ []) h = absurd (omega arith)
eight_are (a ∷ b ∷ c ∷ d ∷ e ∷ f ∷ g ∷ []) h = absurd (omega arith)
eight_are (a ∷ b ∷ c ∷ d ∷ e ∷ f ∷ g ∷ i ∷ []) h = refl
eight_are (a ∷ b ∷ c ∷ d ∷ e ∷ f ∷ g ∷ i ∷ j ∷ as') h = absurd (omega arith)

-- "For a plan left as it was answered": a plan is had back from its numbers, if its areas are
pub plan_back : (p : Plan) → length p.areas.plans ≡ 8 → AllBack p.areas.plans 8 → plan_from (plan_numbers p) ≡ p
unfolding plan_numbers plan_from areas_from area_from
plan_back p eight back =
    let plans : (areas_from (plan_numbers p)).plans ≡ p.areas.plans =
    rw (
      back 0 (omega arith),
      back 1 (omega arith),
      back 2 (omega arith),
      back 3 (omega arith),
      back 4 (omega arith),
      back 5 (omega arith),
      back 6 (omega arith),
      back 7 (omega arith),
    ) (eight_are p.areas.plans eight) in
    λ i. record {
      areas = record { count = p.areas.count; plans = plans i };
      pages = p.pages;
      order = order_back p.order i;
      notes = p.notes;
    }

-- ---- numbers that are put, area after area

module _ (p : Plan) where
  -- the front
  pub front_put : (order : ℕ) → order ≡ order_number p.order
      → put_mid 3 9 ((p.areas.count ∷ p.pages ∷ order ∷ []) ++ replicate 57 0) (note_numbers p.notes) ≡ numbers_up_to p 0
  unfolding numbers_up_to plan_numbers
  front_put order e = rw e refl

  -- one area more
  pub area_put : (k : ℕ) → k < 8 → put_mid (12 + 6 * k) 6 (numbers_up_to p k) (area_numbers (area_at p.areas.plans k)) ≡ numbers_up_to p (k + 1)
  unfolding numbers_up_to plan_numbers
  area_put zero h = refl
  area_put (suc zero) h = refl
  area_put (suc (suc zero)) h = refl
  area_put (suc (suc (suc zero))) h = refl
  area_put (suc (suc (suc (suc zero)))) h = refl
  area_put (suc (suc (suc (suc (suc zero))))) h = refl
  area_put (suc (suc (suc (suc (suc (suc zero)))))) h = refl
  area_put (suc (suc (suc (suc (suc (suc (suc zero))))))) h = refl
  area_put (suc (suc (suc (suc (suc (suc (suc (suc k)))))))) h = absurd (omega arith)

-- with the eighth all are put
pub all_put : (p : Plan) → numbers_up_to p 8 ≡ plan_numbers p
unfolding numbers_up_to plan_numbers
all_put p = refl

-- how the machine writes a mark
pub as_bit : (b : Bool) → bool_byte b ≡ bit b
as_bit true = refl
as_bit false = refl
