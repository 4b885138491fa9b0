-- Document 01, section "Runs". Everything is said of the slots from a run's first on: is are their indexes, ss their sizes, n how many
-- the run has so far. Merges are two lists side by side: firsts and lasts. Assumes nothing.
use Rattle.std.specs.Prelude.{Option, Some, None, Bool, true, false, cond, List, [], ◌∷◌, ◌++◌, ℕ, zero, suc, pred, ◌+◌, ◌-◌, min, max}
use Rattle.std.specs.Prelude.{length, get_or, take, drop, leb, ltb}
use Rattle.planner_rules.specs.declared.titles.Title.{Title}
use Rattle.planner_rules.specs.declared.titles.Title.TheVariants.{Absent, Pair}
use Rattle.planner_rules.specs.declared.titles.Span.{Span}
use Rattle.planner_rules.specs.declared.runs.Frame.{Frame}
use Rattle.planner_rules.specs.declared.runs.RunEnd.{RunEnd}
use Rattle.planner_rules.specs.declared.runs.Cut.{Cut}
use Rattle.planner_rules.specs.declared.runs.Tally.{Tally}
use Rattle.planner_rules.specs.Slots.{sum, below, through, mid}
use Rattle.planner_rules.specs.Titles.{holds, title_holds, past_title}

-- ---- merges

-- a pair from f to l
abbrev pub span : ℕ → ℕ → Span
span f l = record { first = f; last = l }

-- "the earliest by first, then last"
unfoldable pub earlier : ℕ → ℕ → Option Span → Option Span
earlier f l None = Some (span f l)
earlier f l (Some s) = cond (ltb f s.first) (Some (span f l)) (cond (ltb s.first f) (Some s) (Some (span f (min l s.last))))

-- a pair counts if it holds b
unfoldable pub nearer : ℕ → ℕ → ℕ → Option Span → Option Span
nearer f l b held = cond (holds f l b) (earlier f l held) held

-- the merge that is used at the boundary b: "Merges .. are clipped to that stretch; if several hold b, the earliest". One that holds b
-- after clipping is of more than one slot and meets the stretch, so that neither is asked.
unfoldable pub holding : ℕ → ℕ → ℕ → List ℕ → List ℕ → Option Span
holding lo hi b [] ls = None
holding lo hi b (f ∷ fs) [] = None
holding lo hi b (f ∷ fs) (l ∷ ls) = nearer (max f lo) (min l hi) b (holding lo hi b fs ls)

-- ---- natural filling

-- how many of the slots go onto a sum s within the capacity
unfoldable pub more : ℕ → ℕ → List ℕ → ℕ
more cap s [] = 0
more cap s (x ∷ xs) = cond (leb (s + x) cap) (suc (more cap (s + x) xs)) 0

-- "a run takes slots from p while the sum stays within capacity; the first is always taken"
unfoldable pub natural : ℕ → List ℕ → ℕ
natural cap [] = 0
natural cap (x ∷ xs) = suc (more cap x xs)

-- "Capacity is titled if the slot at p lies past the title's last, else untitled."
unfoldable pub capacity_at : Frame → ℕ → ℕ
capacity_at k i = cond (past_title k.title i) k.titled k.untitled

-- how many slots filling gives the run at the head
unfoldable pub filled : Frame → List ℕ → List ℕ → ℕ
filled k is ss = natural (capacity_at k (get_or is 0 0)) ss

-- ---- the title's resumption

-- slots taken onto the sum s: "an overflowing slot before the end of the title's slots is taken and restarts the sum with itself; a later
-- one stops"
unfoldable pub again : ℕ → ℕ → ℕ → List ℕ → List ℕ → ℕ
again cap last s [] ss = 0
again cap last s (i ∷ is) [] = 0
again cap last s (i ∷ is) (x ∷ xs) =
    cond (leb (s + x) cap) (suc (again cap last (s + x) is xs)) (cond (leb i last) (suc (again cap last x is xs)) 0)

-- "taking goes on with a new sum and the titled capacity: the first is taken"
unfoldable pub resumed : ℕ → ℕ → List ℕ → List ℕ → ℕ
resumed cap last [] ss = 0
resumed cap last (i ∷ is) [] = 0
resumed cap last (i ∷ is) (x ∷ xs) = suc (again cap last x is xs)

-- "If the title holds b, taking goes on"
unfoldable pub resumption : Title → ℕ → ℕ → List ℕ → List ℕ → ℕ
resumption Absent cap n is ss = n
resumption (Pair f l) cap n is ss = cond (holds f l (get_or is n 0)) (n + resumed cap l (drop n is) (drop n ss)) n

-- "If slots remain, b is the next index."
unfoldable pub taken : Frame → List ℕ → List ℕ → ℕ
taken k is ss = cond (ltb (filled k is ss) (length is)) (resumption k.title k.titled (filled k is ss) is ss) (filled k is ss)

-- ---- the merge step

-- where a run ends: its slots, and whether that is an expansion
abbrev pub ends : ℕ → Bool → RunEnd
ends n g = record { slots = n; grown = g }

-- "a merge that holds the present b and whose first slot is past p ends the run there; otherwise the run reaches past the merge's last slot,
-- counting one expansion if that is further. The new boundary is not tested again."
unfoldable pub merge_step : Option Span → ℕ → List ℕ → RunEnd
merge_step None n is = ends n false
merge_step (Some s) n is =
    cond (ltb 0 (below s.first is)) (ends (below s.first is) false) (cond (ltb n (through s.last is)) (ends (through s.last is) true) (ends n false))

-- the run's end, where n slots were taken: if slots remain, the merge step
unfoldable pub merged : ℕ → ℕ → List ℕ → List ℕ → ℕ → List ℕ → RunEnd
merged lo hi fs ls n is = cond (ltb n (length is)) (merge_step (holding lo hi (get_or is n 0) fs ls) n is) (ends n false)

-- ---- the runs between two cuts

-- a run: the indexes of its first and last slot, its size, how many slots it has, 1 for an expansion, and 1 for a manual break before it
pub record Run : Type 0 where
  pub first : ℕ
  pub last : ℕ
  pub size : ℕ
  pub slots : ℕ
  pub grown : ℕ
  pub manual : ℕ

-- the run of the first n slots
abbrev pub run_of : ℕ → ℕ → List ℕ → List ℕ → Run
run_of n g is ss = record { first = get_or is 0 0; last = get_or is (n - 1) 0; size = sum (take n ss); slots = n; grown = g; manual = 0 }

-- where the run at the head ends
unfoldable pub run_end : Frame → List ℕ → List ℕ → List ℕ → List ℕ → RunEnd
run_end k fs ls is ss = merged k.lo k.hi fs ls (taken k is ss) is

-- the run at the head
unfoldable pub run : Frame → List ℕ → List ℕ → List ℕ → List ℕ → Run
run k fs ls is ss = run_of (run_end k fs ls is ss).slots (cond (run_end k fs ls is ss).grown 1 0) is ss

-- run after run, where a run that starts at the head of the lists is `at` of them; k slots still belong to the run before
unfoldable pub runs_by : (List ℕ → List ℕ → Run) → ℕ → List ℕ → List ℕ → List Run
runs_by at k [] ss = []
runs_by at k (i ∷ is) [] = []
runs_by at zero (i ∷ is) (s ∷ ss) = at (i ∷ is) (s ∷ ss) ∷ runs_by at (pred (at (i ∷ is) (s ∷ ss)).slots) is ss
runs_by at (suc k) (i ∷ is) (s ∷ ss) = runs_by at k is ss

-- the runs of a stretch
unfoldable pub runs : Frame → List ℕ → List ℕ → List ℕ → List ℕ → List Run
runs k fs ls is ss = runs_by (run k fs ls) zero is ss

-- how many expansions they count: std's `sum_by` of each run's, in its own words
unfoldable pub expansions : List Run → ℕ
expansions [] = 0
expansions (r ∷ rs) = r.grown + expansions rs

-- ---- manual breaks: a cut is a place among the slots

-- a cut, and whether it is shifted
abbrev pub cut_at : ℕ → Bool → Cut
cut_at c s = record { place = c; shifted = s }

-- "If a merge holds it, the cut moves to the merge's first slot if that is past the last kept cut, else past its last slot, and a shift is
-- counted"
unfoldable pub moved : Option Span → ℕ → ℕ → List ℕ → Cut
moved None prev p is = cut_at p false
moved (Some s) prev p is = cut_at (cond (ltb prev (below s.first is)) (below s.first is) (through s.last is)) true

-- "Position 0 or the end is skipped; so is a boundary held by the title." Skipped, the cut is the last kept one.
unfoldable pub placed : Frame → List ℕ → List ℕ → List ℕ → ℕ → ℕ → Cut
placed k fs ls is prev p =
    cond (ltb 0 p)
    (cond (ltb p (length is))
    (cond (title_holds k.title (get_or is p 0)) (cut_at prev false) (moved (holding k.lo k.hi (get_or is p 0) fs ls) prev p is))
    (cut_at prev false))
    (cut_at prev false)

-- "A cut not past the previous one, or at the end, is dropped": the last kept cut stays, and so does the shift
unfoldable pub kept : ℕ → ℕ → Cut → Cut
kept n prev c = cond (ltb prev c.place) (cond (ltb c.place n) c (cut_at prev c.shifted)) (cut_at prev c.shifted)

-- the last kept cut after the break b: "position = first slot not below the break"
unfoldable pub next_cut : Frame → List ℕ → List ℕ → List ℕ → ℕ → ℕ → Cut
next_cut k fs ls is prev b = kept (length is) prev (placed k fs ls is prev (below b is))

-- ---- the runs of an axis

-- the run with a mark
abbrev pub with_mark : ℕ → Run → Run
with_mark m r = record { first = r.first; last = r.last; size = r.size; slots = r.slots; grown = r.grown; manual = m }

-- "A kept cut marks its run."
unfoldable pub first_marked : ℕ → List Run → List Run
first_marked m [] = []
first_marked m (r ∷ rs) = with_mark m r ∷ rs

-- the runs of the slots from the cut a to the cut e; every cut past 0 is a kept one
unfoldable pub stretch : Frame → List ℕ → List ℕ → List ℕ → List ℕ → ℕ → ℕ → List Run
stretch k fs ls is ss a e = first_marked (min a 1) (runs k fs ls (mid a e is) (mid a e ss))

-- "Manual breaks in given order": the runs from the last kept cut on; where a break keeps no cut the stretch to it is empty
unfoldable pub axis_runs : Frame → List ℕ → List ℕ → List ℕ → List ℕ → ℕ → List ℕ → List Run
axis_runs k fs ls is ss prev [] = stretch k fs ls is ss prev (length ss)
axis_runs k fs ls is ss prev (b ∷ bs) =
    stretch k fs ls is ss prev (next_cut k fs ls is prev b).place ++ axis_runs k fs ls is ss (next_cut k fs ls is prev b).place bs

-- how many shifts the breaks count, from the last kept cut on
unfoldable pub shifts : Frame → List ℕ → List ℕ → List ℕ → ℕ → List ℕ → ℕ
shifts k fs ls is prev [] = 0
shifts k fs ls is prev (b ∷ bs) = cond (next_cut k fs ls is prev b).shifted 1 0 + shifts k fs ls is (next_cut k fs ls is prev b).place bs

-- so many runs, expansions and shifts
abbrev pub tallies : ℕ → ℕ → ℕ → Tally
tallies n g s = record { runs = n; expansions = g; shifts = s }

-- how many runs, expansions and shifts
unfoldable pub axis_tally : Frame → List ℕ → List ℕ → List ℕ → List ℕ → List ℕ → Tally
axis_tally k fs ls is ss bs =
    tallies (length (axis_runs k fs ls is ss 0 bs)) (expansions (axis_runs k fs ls is ss 0 bs)) (shifts k fs ls is 0 bs)

-- ---- for the private functions

-- the merge that is used, of these merges and of what was found before
unfoldable pub holding_onto : ℕ → ℕ → ℕ → List ℕ → List ℕ → Option Span → Option Span
holding_onto lo hi b [] ls held = held
holding_onto lo hi b (f ∷ fs) [] held = held
holding_onto lo hi b (f ∷ fs) (l ∷ ls) held = nearer (max f lo) (min l hi) b (holding_onto lo hi b fs ls held)
