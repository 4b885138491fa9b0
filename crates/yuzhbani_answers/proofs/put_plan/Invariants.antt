-- The numbers up to an area are the plan's, and behind them are zeros; the areas up to there are had back from their numbers.
use Rattle.std.proofs.Common.{◌≡◌}
use Rattle.yuzhbani_answers.specs.Numbers.{numbers_up_to, AllBack}
use Rattle.yuzhbani_answers.proofs.put_plan.Given as goal

abbrev pub invariant-loop-k : goal.invariant-loop-k
invariant-loop-k l = record {
  put : l.numbers ≡ numbers_up_to l.plan l.k;
  back : AllBack l.plan.areas.plans l.k;
}
