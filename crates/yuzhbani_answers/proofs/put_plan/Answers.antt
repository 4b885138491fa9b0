-- The head and the areas are the numbers of the plan, which is had back from them.
use Rattle.std.proofs.Common.{◌≡◌, ◌∙◌, ◌-◌, ◌+◌, ◌*◌, below_more, length, rules, arith}
use Rattle.yuzhbani_answers.proofs.NumberLaws.{plan_back, front_put, area_put, all_put}
use Rattle.yuzhbani_answers.proofs.put_plan.Goals as goal

pub loop-k-init : goal.loop-k-init
loop-k-init c =
    record {
      put =
          rw (c.copy_from_slice.ensures.after, c.copy_from_slice-2.ensures.after, c.from.ensures)
          (front_put c.args.plan.now _ (search rules));
      back = λ k h. absurd (omega arith);
    }

pub loop-k-preserved : goal.loop-k-preserved
loop-k-preserved c =
    let p = c.args.plan.now in
    let l = c.loop-k in
    let wide : (12 + 6 * l.k + 6) - (12 + 6 * l.k) ≡ 6 = omega arith in
    record {
      put = rw (
        wide,
        l.invariant.put,
        c.copy_from_slice-in-loop-k.ensures.after,
        c.area_numbers.ensures.value,
      ) (area_put p l.k (omega arith));
      back = below_more _ _ l.invariant.back c.area_numbers.ensures.area_back;
    }

pub returns : goal.returns
returns c =
    let p = c.args.plan.now in
    let l = c.loop-k in
    let e : l.k ≡ 8 = omega arith in
    let eight : length p.areas.plans ≡ 8 = omega arith in
    record {
      numbers_after = rw e at l.invariant.put ∙ all_put p;
      plan_value = plan_back p eight (rw e at l.invariant.back);
    }
