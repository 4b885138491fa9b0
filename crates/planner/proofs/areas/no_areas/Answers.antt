-- No area comes to nothing.
use Rattle.planner_rules.specs.Areas.{over_areas}
use Rattle.planner.proofs.areas.no_areas.Goals as goal

pub returns : goal.returns
unfolding over_areas
returns c = λ i. record {
  areas = c.new.ensures i;
  rows = 0;
  columns = 0;
  pages = 0;
  notes = record {
    clamped = c.default.ensures.0 i;
    unreachable = c.default.ensures.1.0 i;
    expansions = c.default.ensures.1.1.0 i;
    shifts = c.default.ensures.1.1.1.0 i;
    overflows = c.default.ensures.1.1.1.1 i;
  };
}
