-- The call that cuts an axis into lent lists: the body of a range (document 01, "Titles"), its runs ("Runs") and what is asked first
-- ("Questions in order"). Assumes nothing.
use Rattle.std.specs.Prelude.{◌≡◌, ◌&&◌, Result, Ok, Err, List, ℕ, ◌+◌, leb, length}
use Rattle.units.specs.declared.refusal.Refusal.{Refusal}
use Rattle.units.specs.Outcome.{Outcome, given, refused}
use Rattle.units.specs.Refusals.{number_of, outcome}
use Rattle.planner_rules.specs.declared.runs.Frame.{Frame}
use Rattle.planner_rules.specs.declared.runs.Tally.{Tally}
use Rattle.planner_rules.specs.declared.partition.AxisSetup.{AxisSetup}
use Rattle.planner_rules.specs.Slots.{below, mid, written}
use Rattle.planner_rules.specs.Questions.{ask, no_or, well_formed, all_within, rising_within, all_small}
use Rattle.planner_rules.specs.Titles.{body_start}
use Rattle.planner_rules.specs.Runs.{Run, axis_runs, axis_tally}
use Rattle.planner_rules.specs.Lent.{room_in, flat}

-- merges are clipped to "the stretch from the body's start to the range's last index"
abbrev pub frame_of : AxisSetup → Frame
frame_of s = record { untitled = s.untitled; titled = s.titled; title = s.title; lo = body_start s.title s.first; hi = s.last }

-- of a list that goes with the indexes: "The body is the measured slots from there to the range's last."
abbrev pub body_of : AxisSetup → List ℕ → List ℕ → List ℕ
body_of s is xs = mid (below (body_start s.title s.first) is) (below (s.last + 1) is) xs

-- the runs of the body, between the manual breaks
unfoldable pub body_runs : AxisSetup → List ℕ → List ℕ → List ℕ → List ℕ → List ℕ → List Run
body_runs s is ss fs ls bs = axis_runs (frame_of s) fs ls (body_of s is is) (body_of s is ss) 0 bs

-- how many there are, with expansions and shifts
unfoldable pub body_tally : AxisSetup → List ℕ → List ℕ → List ℕ → List ℕ → List ℕ → Tally
body_tally s is ss fs ls bs = axis_tally (frame_of s) fs ls (body_of s is is) (body_of s is ss) bs

-- "Items read, and row and column runs, fit their lent lists?", then what was counted
abbrev pub room_for : List Run → Tally → ℕ → Outcome Tally
room_for rs t room = ask 11 (leb (length rs) room) (given t)

-- what the body comes to, with so much room
abbrev pub fits : AxisSetup → List ℕ → List ℕ → List ℕ → List ℕ → List ℕ → ℕ → Outcome Tally
fits s is ss fs ls bs room = room_for (body_runs s is ss fs ls bs) (body_tally s is ss fs ls bs) room

-- questions 6, 7, 8, 9 and 11 in order, then how many runs, expansions and shifts; `list` is the lent list
unfoldable pub partition : ℕ → AxisSetup → List ℕ → List ℕ → List ℕ → List ℕ → List ℕ → List ℕ → Outcome Tally
partition limit s is ss fs ls bs list =
    ask 6 (well_formed s.first s.last is ss fs ls)
    (ask 7 (leb s.last limit && all_within limit ls)
    (ask 8 (rising_within limit is)
    (ask 9 (all_small ss)
    (fits s is ss fs ls bs (room_in list)))))

-- a lent list after the call: the values and what stood behind them, or, where the call is refused, the list as it was
abbrev pub lent : {A : Type 0} → Outcome A → List ℕ → List ℕ → List ℕ
lent (given a) values old = written values old
lent (refused n) values old = old

-- the answer r and the lent list, which was `before`, where the outcome is o and the runs are rs
pub record Answered (o : Outcome Tally) (rs : List Run) (r : Result Tally Refusal) (before after : List ℕ) : Type 0 where
  pub answer : outcome r ≡ o
  pub list_is : after ≡ lent o (flat rs) before

-- ---- for the private functions

-- the number of a refusal, or 0 where nothing was refused
abbrev pub no_of : {A : Type 0} → Result A Refusal → ℕ
no_of (Ok a) = 0
no_of (Err r) = number_of r

-- the first of the questions 6 to 9 with the answer no, or 0
unfoldable pub first_no : ℕ → AxisSetup → List ℕ → List ℕ → List ℕ → List ℕ → ℕ
first_no limit s is ss fs ls =
    no_or 6 (well_formed s.first s.last is ss fs ls)
    (no_or 7 (leb s.last limit && all_within limit ls) (no_or 8 (rising_within limit is) (no_or 9 (all_small ss) 0)))
