-- The eight P cases of document 01's section "Runs", its case without slots and the two cases of widening of section "Titles", computed, with
-- two cases of mistakes that it expects: breaks that are sorted, and a boundary that a merge moved and that is tested again; and divisions
-- that the words of demand 3 shut out. Assumes nothing.
use mathlib.Core.Path.{◌≡◌, refl}
use mathlib.Core.Logic.{inl, inr, ⊎_elim}
use mathlib.Core.List.{List, [], ◌∷◌, map}
use Prim.Native.Nat.{ℕ, ◌≤◌}
use mathlib.Core.Bool.{◌&&◌}
use native.Mathlib.Omega.{arith}
use lib.IntN.{pos}
use Rattle.units.specs.Outcome.{Outcome, given}
use Rattle.units.specs.Units.{scale_fixed, unscaled_capacity, in_i64}
use Rattle.planner_rules.specs.declared.titles.Title.{Title}
use Rattle.planner_rules.specs.declared.titles.Title.TheVariants.{Absent, Pair}
use Rattle.planner_rules.specs.declared.titles.Axis.TheVariants.{Rows}
use Rattle.planner_rules.specs.declared.titles.Widened.{Widened}
use Rattle.planner_rules.specs.declared.runs.Frame.{Frame}
use Rattle.planner_rules.specs.Slots.{sum, below, through}
use Rattle.planner_rules.specs.Questions.{all_ordered, all_within}
use Rattle.planner_rules.specs.Titles.{title_holds, past_title, limit_of, normalized, widen_to, pass, same_span, still, passes, expand, widened_from, widened}
use Rattle.planner_rules.specs.Titles.{widen_title}
use Rattle.planner_rules.specs.Runs.{earlier, nearer, holding, more, natural, capacity_at, filled, again, resumed, resumption, taken, merge_step, merged}
use Rattle.planner_rules.specs.Runs.{Run, run_end, run, runs_by, runs, expansions, moved, placed, kept, next_cut, first_marked, stretch, axis_runs, shifts}
use Rattle.planner_rules.specs.Scale.{Space, Body, fixed_scale, runs_at, fits_side, all_fit, runs_fit, axis_passes, middle, halve, fit_scale}
use Rattle.planner_rules.specs.Division.{CutsAt, Within, Fewest, starts_from, pieces}
use Rattle.planner_rules.proofs.Division.{Counts, link, done, total, Good, division_of, within_from}

-- what the table shows: the runs, each by first, last, size and 1 for a manual break before it; expansions; shifts
pub data Row : Type 0 where
  row : List (List ℕ) → ℕ → ℕ → Row

-- an axis from 0 on, with capacities untitled and titled, a title, merges (firsts, lasts), breaks, indexes and sizes
pub axis_row : ℕ → ℕ → Title → List ℕ → List ℕ → List ℕ → List ℕ → List ℕ → Row
axis_row u t title fs ls bs is ss =
    let k : Frame = record { untitled = u; titled = t; title = title; lo = 0; hi = 4 } in
    let rs = axis_runs k fs ls is ss 0 bs in
    row (map (λ (r : Run). r.first ∷ r.last ∷ r.size ∷ r.manual ∷ []) rs) (expansions rs) (shifts k fs ls is 0 bs)

abbrev pub tens : List ℕ
tens = 10 ∷ 10 ∷ 10 ∷ 10 ∷ 10 ∷ []

-- "Five slots 0 to 4 of size 10"
pub five : ℕ → ℕ → Title → List ℕ → List ℕ → List ℕ → Row
five u t title fs ls bs = axis_row u t title fs ls bs (0 ∷ 1 ∷ 2 ∷ 3 ∷ 4 ∷ []) tens

-- the title 5..5 with row merges, widened
pub five_five : List ℕ → List ℕ → Outcome Widened
five_five fs ls = widen_title (limit_of Rows) (Pair 5 5) fs ls

abbrev pub widened_to : ℕ → ℕ → ℕ → Outcome Widened
widened_to f l n = given (record { title = Pair f l; ignored = 0; expanded = n })

-- rows of these sizes and one column of 100, sides 200, at most so many pages high and one wide: the permille and the note
pub fitted : List ℕ → List ℕ → ℕ → List ℕ
fitted is ss high =
    let space : Space = record { side = pos 200; headings = 0; titles = 0 } in
    let body : List ℕ → List ℕ → Body = λ is ss. record { title = Absent; lo = 0; hi = 9; firsts = []; lasts = []; indexes = is; sizes = ss } in
    let scale = fit_scale (λ p. axis_passes space (body is ss) high p && axis_passes space (body (0 ∷ []) (100 ∷ [])) 1 p) in
    scale.permille ∷ scale.unreachable ∷ []

pub record Table : Type 0 where
  pub nothing_else : five 25 25 Absent [] [] [] ≡ row ((0 ∷ 1 ∷ 20 ∷ 0 ∷ []) ∷ (2 ∷ 3 ∷ 20 ∷ 0 ∷ []) ∷ (4 ∷ 4 ∷ 10 ∷ 0 ∷ []) ∷ []) 0 0
  pub inner_merge : five 25 25 Absent (1 ∷ []) (2 ∷ []) [] ≡ row ((0 ∷ 0 ∷ 10 ∷ 0 ∷ []) ∷ (1 ∷ 2 ∷ 20 ∷ 0 ∷ []) ∷ (3 ∷ 4 ∷ 20 ∷ 0 ∷ []) ∷ []) 0 0
  pub long_merge : five 25 25 Absent (0 ∷ []) (3 ∷ []) [] ≡ row ((0 ∷ 3 ∷ 40 ∷ 0 ∷ []) ∷ (4 ∷ 4 ∷ 10 ∷ 0 ∷ []) ∷ []) 1 0
  pub four_breaks : five 25 25 Absent [] [] (3 ∷ 1 ∷ 0 ∷ 5 ∷ [])
      ≡ row ((0 ∷ 1 ∷ 20 ∷ 0 ∷ []) ∷ (2 ∷ 2 ∷ 10 ∷ 0 ∷ []) ∷ (3 ∷ 4 ∷ 20 ∷ 1 ∷ []) ∷ []) 0 0
  -- the same breaks, sorted: another answer
  pub sorted_breaks : five 25 25 Absent [] [] (0 ∷ 1 ∷ 3 ∷ 5 ∷ [])
      ≡ row ((0 ∷ 0 ∷ 10 ∷ 0 ∷ []) ∷ (1 ∷ 2 ∷ 20 ∷ 1 ∷ []) ∷ (3 ∷ 4 ∷ 20 ∷ 1 ∷ []) ∷ []) 0 0
  pub moved_break : five 25 25 Absent (1 ∷ []) (2 ∷ []) (2 ∷ [])
      ≡ row ((0 ∷ 0 ∷ 10 ∷ 0 ∷ []) ∷ (1 ∷ 2 ∷ 20 ∷ 1 ∷ []) ∷ (3 ∷ 4 ∷ 20 ∷ 0 ∷ []) ∷ []) 0 1
  pub dropped_break : five 25 25 Absent (0 ∷ []) (4 ∷ []) (2 ∷ []) ≡ row ((0 ∷ 4 ∷ 50 ∷ 0 ∷ []) ∷ []) 1 1
  -- "The new boundary is not tested again": (2,3) holds the boundary 3 and moves it to 2, which (1,2) holds
  pub moved_boundary : five 35 35 Absent (1 ∷ 2 ∷ []) (2 ∷ 3 ∷ []) [] ≡ row ((0 ∷ 1 ∷ 20 ∷ 0 ∷ []) ∷ (2 ∷ 4 ∷ 30 ∷ 0 ∷ []) ∷ []) 0 0
  pub inner_title : five 25 15 (Pair 1 2) [] [] [] ≡ row ((0 ∷ 2 ∷ 30 ∷ 0 ∷ []) ∷ (3 ∷ 3 ∷ 10 ∷ 0 ∷ []) ∷ (4 ∷ 4 ∷ 10 ∷ 0 ∷ []) ∷ []) 0 0
  pub zero_size : axis_row 25 25 Absent [] [] [] (0 ∷ 1 ∷ 2 ∷ []) (25 ∷ 0 ∷ 1 ∷ []) ≡ row ((0 ∷ 1 ∷ 25 ∷ 0 ∷ []) ∷ (2 ∷ 2 ∷ 1 ∷ 0 ∷ []) ∷ []) 0 0
  pub no_slots : axis_row 25 25 Absent [] [] [] [] [] ≡ row [] 0 0
  pub merges_out_of_order : five_five (6 ∷ 5 ∷ []) (7 ∷ 6 ∷ []) ≡ widened_to 5 7 2
  pub merges_in_order : five_five (5 ∷ 6 ∷ []) (6 ∷ 7 ∷ []) ≡ widened_to 5 7 1
  pub one_page_high : fitted (0 ∷ 1 ∷ 2 ∷ 3 ∷ []) (100 ∷ 100 ∷ 100 ∷ 100 ∷ []) 1 ≡ 500 ∷ 0 ∷ []
  pub two_pages_high : fitted (0 ∷ 1 ∷ 2 ∷ 3 ∷ []) (100 ∷ 100 ∷ 100 ∷ 100 ∷ []) 2 ≡ 1000 ∷ 0 ∷ []
  pub row_of_2004 : fitted (0 ∷ []) (2004 ∷ []) 1 ≡ 100 ∷ 0 ∷ []
  pub row_of_2005 : fitted (0 ∷ []) (2005 ∷ []) 1 ≡ 100 ∷ 1 ∷ []

pub table : Table
unfolding fitted fixed_scale runs_at fits_side all_fit runs_fit axis_passes middle halve fit_scale scale_fixed unscaled_capacity in_i64 five axis_row five_five limit_of
    normalized widen_to pass same_span still passes expand widened_from widened widen_title all_ordered all_within sum below through title_holds past_title earlier
    nearer holding more natural capacity_at filled again resumed resumption taken merge_step merged run_end run runs_by runs expansions moved placed kept
    next_cut first_marked stretch axis_runs shifts
table =
    record {
      nothing_else = refl;
      inner_merge = refl;
      long_merge = refl;
      four_breaks = refl;
      sorted_breaks = refl;
      moved_break = refl;
      dropped_break = refl;
      moved_boundary = refl;
      inner_title = refl;
      zero_size = refl;
      no_slots = refl;
      merges_out_of_order = refl;
      merges_in_order = refl;
      one_page_high = refl;
      two_pages_high = refl;
      row_of_2004 = refl;
      row_of_2005 = refl;
    }

-- ---- what demand 3 shuts out, of the same five slots

pub record Refused : Type 0 where
  pub single_run : ¬ (Within 25 tens (5 ∷ []))
  pub rest_in_one_run : ¬ (Within 25 tens (2 ∷ 3 ∷ []))
  pub passed_break : ¬ (CutsAt (3 ∷ []) (2 ∷ 2 ∷ 1 ∷ []))
  pub one_run_a_slot : ¬ (Fewest 25 [] tens (1 ∷ 1 ∷ 1 ∷ 1 ∷ 1 ∷ []))

fits : (p m : ℕ) → total tens p m ≤ 25 → Good 25 [] tens p m
fits p m h = record { within = λ _. h; clear = λ b i. absurd i }

two_two_one : Counts (Good 25 [] tens) 0 (2 ∷ 2 ∷ 1 ∷ []) 5
unfolding sum
two_two_one =
    link {a = 2} (omega arith) (fits 0 2 (omega arith))
    (link {a = 2} (omega arith) (fits 2 2 (omega arith)) (link {a = 1} (omega arith) (fits 4 1 (omega arith)) done))

pub refused : Refused
unfolding pieces sum starts_from
refused =
    record {
      single_run = λ w. absurd (omega (arith, w _ (inl refl) (omega arith)));
      rest_in_one_run = λ w. absurd (omega (arith, w _ (inr (inl refl)) (omega arith)));
      passed_break = λ c. ⊎_elim (λ e. omega arith) (⊎_elim (λ e. omega arith) (⊎_elim (λ e. omega arith) (λ e. e))) (c 3 (inl refl));
      one_run_a_slot = λ f. absurd (omega (arith, f.none_fewer _ (division_of two_two_one) (λ b i. absurd i) (within_from 25 [] tens two_two_one)));
    }
