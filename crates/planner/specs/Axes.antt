-- What an axis that is fitted passes, and the runs that a cutter makes of measured slots: the definitions of `planner_rules`, of the structs here.
-- Assumes nothing.
use Rattle.std.specs.Prelude.{List, ℕ, Bool, ◌&&◌}
use Rattle.planner_rules.specs.Runs.{Run, runs, axis_runs}
use Rattle.planner_rules.specs.Scale.{fit_passes}
use Rattle.planner.specs.declared.slots.Measured.{Measured}
use Rattle.planner.specs.declared.fitted.FittedAxis.{FittedAxis}
use Rattle.planner.specs.declared.runs.Cutter.{Cutter}

-- whether an axis passes at a permille
abbrev pub passes : FittedAxis → ℕ → Bool
passes a p = fit_passes a.fit a.merges.firsts.now a.merges.lasts.now a.slots.indexes.now a.slots.sizes.now p

-- whether both do
abbrev pub both_pass : FittedAxis → FittedAxis → ℕ → Bool
both_pass r c p = passes r p && passes c p

-- the runs of a stretch
abbrev pub runs_by : Cutter → Measured → List Run
runs_by t m = runs t.frame t.merges.firsts.now t.merges.lasts.now m.indexes.now m.sizes.now

-- the runs of an axis with breaks
abbrev pub axis_runs_by : Cutter → Measured → List ℕ → List Run
axis_runs_by t m bs = axis_runs t.frame t.merges.firsts.now t.merges.lasts.now m.indexes.now m.sizes.now 0 bs
