-- Document 01, section "Scale". Assumes nothing.
use Rattle.std.specs.Prelude.{Bool, true, false, cond, ◌&&◌, ◌||◌, List, [], ◌∷◌, ℕ, zero, suc, ◌+◌, ◌-◌, ◌*◌, ◌/◌, ◌^◌, ◌≤◌, min, max, leb, ltb, eqb, ℤ, pos}
use Rattle.std.specs.Prelude.{nat_abs, length, Option, unwrap_or}
use Rattle.std.specs.Int.Signed.{le_z}
use Rattle.units.specs.Outcome.{Outcome, given, refused}
use Rattle.units.specs.Units.{scale_fixed, unscaled_capacity}
use Rattle.planner_rules.specs.declared.titles.Title.{Title}
use Rattle.planner_rules.specs.declared.runs.Frame.{Frame}
use Rattle.planner_rules.specs.declared.scale.PageSide.{PageSide}
use Rattle.planner_rules.specs.declared.scale.Stretch.{Stretch}
use Rattle.planner_rules.specs.declared.scale.Fit.{Fit}
use Rattle.planner_rules.specs.declared.scale.ChosenScale.{ChosenScale}
use Rattle.planner_rules.specs.Slots.{Slots}
use Rattle.planner_rules.specs.Titles.{past_title}
use Rattle.planner_rules.specs.Runs.{Run, runs}

-- a scale in thousandths, and its two notes
pub record Scale : Type 0 where
  pub permille : ℕ
  pub clamp : ℕ
  pub unreachable : ℕ

-- a setting, or what its absence means
abbrev pub or_else : Option ℕ → ℕ → ℕ
or_else setting n = unwrap_or setting n

-- "percent (absent 100)"
abbrev pub default_percent : ℕ
default_percent = 100

-- "targets absent mean 1"
abbrev pub default_target : ℕ
default_target = 1

-- ---- fit off

-- "clamped to 10..400"
abbrev pub clamped : ℕ → ℕ
clamped percent = max 10 (min percent 400)

-- "percent (absent 100) clamped to 10..400, with a note if moved, times ten"
unfoldable pub fixed_scale : Option ℕ → Scale
fixed_scale percent =
    let p = or_else percent default_percent in
    record { permille = clamped p * 10; clamp = cond (eqb p (clamped p)) 0 1; unreachable = 0 }

-- ---- fit on: whether an axis passes at a permille

-- what an axis has on a page: the content side, the headings, and the title's total
pub record Space : Type 0 where
  pub side : ℤ
  pub headings : ℕ
  pub titles : ℕ

-- what is cut: the title, the stretch that merges are clipped to, the merges, and the body's slots
pub record Body : Type 0 where
  pub title : Title
  pub lo : ℕ
  pub hi : ℕ
  pub firsts : List ℕ
  pub lasts : List ℕ
  pub indexes : List ℕ
  pub sizes : List ℕ

-- the units of a length that was given
abbrev pub units : Outcome ℤ → ℕ
units (given z) = nat_abs z
units (refused n) = 0

-- the capacity at a permille beside t units of titles
abbrev pub capacity_of : Space → ℕ → ℕ → ℕ
capacity_of s p t = units (unscaled_capacity s.side p (pos t) (pos s.headings))

-- what the runs of an axis go by at a permille: both capacities, the title, and the stretch that merges are clipped to
abbrev pub frame_for : Space → Body → ℕ → Frame
frame_for s b p = record { untitled = capacity_of s p 0; titled = capacity_of s p s.titles; title = b.title; lo = b.lo; hi = b.hi }

-- "cut without breaks"
unfoldable pub runs_at : Space → Body → ℕ → List Run
runs_at s b p = runs (frame_for s b p) b.firsts b.lasts b.indexes b.sizes

-- a length that was had is at most the side
abbrev pub at_most : Outcome ℤ → ℤ → Bool
at_most (given z) side = le_z z side
at_most (refused n) side = false

-- "scaled and rounded, is at most the content side"
unfoldable pub fits_side : Space → ℕ → ℕ → Bool
fits_side s p size = at_most (scale_fixed (pos size) p) s.side

-- what a run takes of a page: "its size plus headings, plus titles where it lies past the title or its body is empty" (section "Pages")
abbrev pub printed : Space → Title → Bool → ℕ → ℕ → ℕ
printed s t empty first size = size + cond (empty || past_title t first) s.titles 0 + s.headings

-- a "run plus headings, plus titles where it lies past the title"
abbrev pub rendered : Space → Body → Run → ℕ
rendered s b r = printed s b.title false r.first r.size

-- every run does
unfoldable pub all_fit : Space → Body → ℕ → List Run → Bool
all_fit s b p [] = true
all_fit s b p (r ∷ rs) = fits_side s p (rendered s b r) && all_fit s b p rs

-- "An axis without runs passes when titles plus headings do."
unfoldable pub runs_fit : Space → Body → ℕ → List Run → Bool
runs_fit s b p [] = fits_side s p (s.titles + s.headings)
runs_fit s b p (r ∷ rs) = all_fit s b p (r ∷ rs)

-- "targets .. 0 unlimited"
abbrev pub meets : ℕ → ℕ → Bool
meets target n = eqb target 0 || leb n target

-- "both axes are cut without breaks": an axis passes if its runs fit and meet the target
unfoldable pub axis_passes : Space → Body → ℕ → ℕ → Bool
axis_passes s b target p = runs_fit s b p (runs_at s b p) && meets target (length (runs_at s b p))

-- ---- the halving

-- the Rust's middle: low + (high - low) / 2, rounded up
unfoldable pub middle : ℕ → ℕ → ℕ
middle low high = low + (high - low + 1) / 2

-- "the Rust's halving": at most so many turns; 10 are enough from 100 to 1,000
unfoldable pub halve : (ℕ → Bool) → ℕ → ℕ → ℕ → ℕ
halve passes zero low high = low
halve passes (suc turns) low high =
    let m = middle low high in
    let up = halve passes turns m high in
    let down = halve passes turns low (m - 1) in
    let next = cond (passes m) up down in
    cond (ltb low high) next low

-- "If 100 fails: 100 and the note. Otherwise the Rust's halving from 100 to 1,000."
unfoldable pub fit_scale : (ℕ → Bool) → Scale
fit_scale passes =
    let found : Scale = record { permille = halve passes 10 100 1000; clamp = 0; unreachable = 0 } in
    let none : Scale = record { permille = 100; clamp = 0; unreachable = 1 } in
    cond (passes 100) found none

-- ---- for the private functions

-- what a struct of the code stands for
abbrev pub space_of : PageSide → Space
space_of s = record { side = s.side.0; headings = s.headings; titles = s.titles }

-- a scale as the code has it
abbrev pub scale_of : ChosenScale → Scale
scale_of c = record { permille = c.permille; clamp = c.clamp; unreachable = c.unreachable }

-- the body of an axis that is fitted
abbrev pub body_for : Stretch → List ℕ → List ℕ → List ℕ → List ℕ → Body
body_for t fs ls is ss = record { title = t.title; lo = t.lo; hi = t.hi; firsts = fs; lasts = ls; indexes = is; sizes = ss }

-- a body of which only the title is looked at
abbrev pub titled : Title → Body
titled t = record { title = t; lo = 0; hi = 0; firsts = []; lasts = []; indexes = []; sizes = [] }

-- headings and titles are small
pub record Low (s : PageSide) : Type 0 where
  pub headings_low : s.headings ≤ 2 ^ 50
  pub titles_low : s.titles ≤ 2 ^ 50

-- an axis that is fitted passes at a permille
abbrev pub fit_passes : Fit → List ℕ → List ℕ → List ℕ → List ℕ → ℕ → Bool
fit_passes f fs ls is ss p = axis_passes (space_of f.page) (body_for f.stretch fs ls is ss) f.target p

-- an axis that was asked about
pub record Fitted (f : Fit) (is ss : List ℕ) : Type 0 where
  pub low : Low f.page
  pub slots : Slots is ss
