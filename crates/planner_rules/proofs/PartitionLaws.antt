-- Laws of `specs/Partition.antt`'s definitions. Assumes nothing.
use mathlib.Core.Path.{◌≡◌, refl, ◌∙◌}
use mathlib.Core.Bool.{Bool, true, false, cond, ◌&&◌}
use mathlib.Core.List.{List, [], ◌∷◌}
use Prim.Native.Nat.{ℕ, suc, ◌+◌, ◌-◌, ◌≤◌, ◌<◌}
use native.Mathlib.Omega.{arith}
use native.Mathlib.Nat.{lt_of_not-le}
use native.Mathlib.Decide.{dec_le}
use lib.Dec.{leb, ltb}
use lib.ListN.{length}
use borrow.Author.Tests.{le-leb, lt-leb, lt-ltb, eqb-true}
use Rattle.std.specs.Prelude.{Result, Ok, Err}
use Rattle.units.specs.declared.refusal.Refusal.{Refusal}
use Rattle.units.specs.Outcome.{Outcome, given, refused}
use Rattle.units.specs.Refusals.{number_of}
use Rattle.planner_rules.specs.declared.partition.AxisSetup.{AxisSetup}
use Rattle.planner_rules.specs.declared.runs.Frame.{Frame}
use Rattle.planner_rules.specs.declared.runs.Tally.{Tally}
use Rattle.planner_rules.specs.Slots.{Slots, below, mid}
use Rattle.planner_rules.specs.Questions.{ask, no_or, equally_long, well_formed, all_ordered, all_within, rising_within, all_small}
use Rattle.planner_rules.specs.Titles.{body_start}
use Rattle.planner_rules.specs.Runs.{Run, runs_by, runs, first_marked, stretch, kept, placed, next_cut, axis_runs, shifts, expansions, tallies, axis_tally}
use Rattle.planner_rules.specs.Lent.{Written, room_in, flat}
use Rattle.planner_rules.specs.Partition.{first_no, fits, partition, frame_of, body_runs, body_tally, room_for, Answered}
use Rattle.planner_rules.proofs.Laws.{either_lt}
use Rattle.planner_rules.proofs.QuestionLaws.{asked_no, asked_yes, no_number, slots_of}
use Rattle.std.proofs.lemmas.Bool.{and_parts}

-- ---- what the first no says of the whole

-- a no refuses with its number
pub stops : {A : Type 0} (a b c d : Bool) (n : ℕ) (o : Outcome A) → n ≡ no_or 6 a (no_or 7 b (no_or 8 c (no_or 9 d 0))) → 0 < n
    → ask 6 a (ask 7 b (ask 8 c (ask 9 d o))) ≡ refused n
stops a b c d n o e h =
    rw e (asked_no 6 a _ _ (asked_no 7 b _ _ (asked_no 8 c _ _ (asked_no 9 d 0 o (no_number o)))) (rw e at h))

-- none: every answer is yes
pub goes : (a b c d : Bool) → 0 ≡ no_or 6 a (no_or 7 b (no_or 8 c (no_or 9 d 0))) → (a ≡ true) × (b ≡ true) × (c ≡ true) × (d ≡ true)
goes a b c d e =
    let six = asked_yes 6 a _ (omega arith) e in
    let seven = asked_yes 7 b _ (omega arith) six.1 in
    let eight = asked_yes 8 c _ (omega arith) seven.1 in
    (six.0, seven.0, eight.0, (asked_yes 9 d _ (omega arith) eight.1).0)

module _ (limit : ℕ) (s : AxisSetup) (is ss fs ls bs list : List ℕ) (n : ℕ) (e : n ≡ first_no limit s is ss fs ls) where
  abbrev six : Bool
  six = well_formed s.first s.last is ss fs ls

  abbrev seven : Bool
  seven = leb s.last limit && all_within limit ls

  pub is_refused : 0 < n → partition limit s is ss fs ls bs list ≡ refused n
  unfolding partition first_no
  is_refused h = stops six seven (rising_within limit is) (all_small ss) n _ e h

  -- what the private functions rely on
  pub record Asked : Type 0 where
    pub slots : Slots is ss
    pub goes_on : partition limit s is ss fs ls bs list ≡ fits s is ss fs ls bs (room_in list)

  pub is_asked : n ≤ 0 → limit ≤ 1048575 → Asked
  unfolding partition first_no
  is_asked h bound =
      let z0 : 0 ≡ n = omega arith in
      let y = goes six seven (rising_within limit is) (all_small ss) (z0 ∙ e) in
      let three = (and_parts (equally_long is ss && equally_long fs ls && leb s.first s.last) (all_ordered fs ls) y.0).0 in
      let two = (and_parts (equally_long is ss && equally_long fs ls) (leb s.first s.last) three).0 in
      let one = (and_parts (equally_long is ss) (equally_long fs ls) two).0 in
      record { slots = slots_of limit is ss bound (eqb-true (length is) (length ss) one) y.2 y.3; goes_on = rw (y.0, y.1, y.2, y.3) }

-- ---- no slots

none_cut : (k : Frame) (fs ls : List ℕ) (b : ℕ) → ((next_cut k fs ls [] 0 b).place ≡ 0) × ((next_cut k fs ls [] 0 b).shifted ≡ false)
unfolding next_cut kept placed below
none_cut k fs ls b = (refl, refl)

none_runs : (k : Frame) (fs ls bs : List ℕ) → axis_runs k fs ls [] [] 0 bs ≡ []
unfolding axis_runs stretch first_marked runs runs_by
none_runs k fs ls [] = refl
none_runs k fs ls (b ∷ bs) = rw (none_cut k fs ls b).0 (none_runs k fs ls bs)

none_shifts : (k : Frame) (fs ls bs : List ℕ) → shifts k fs ls [] 0 bs ≡ 0
unfolding shifts
none_shifts k fs ls [] = refl
none_shifts k fs ls (b ∷ bs) = rw ((none_cut k fs ls b).0, (none_cut k fs ls b).1) (omega (arith, none_shifts k fs ls bs))

-- a limit below another has no more slots below it
below_mono : (a b : ℕ) (is : List ℕ) → a ≤ b → below a is ≤ below b is
unfolding below
below_mono a b [] h = omega arith
below_mono a b (i ∷ is) h =
    either_lt (λ (n : ℕ). n ≤ cond (ltb i b) (suc (below b is)) 0) i a
    (λ p. rw (lt-ltb i b (omega arith)) (omega (arith, below_mono a b is h)))
    (λ p. omega arith)

-- where some slots lie in the body, its start is within the range
pub start_within : (start last : ℕ) (is : List ℕ) → below start is < below (last + 1) is → start ≤ last
start_within start last is h =
    elim (dec_le start last) [
      | yes p ↦ p
      | no p ↦ absurd (omega (arith, below_mono (last + 1) start is (omega (arith, lt_of_not-le p))))
    ]

-- an empty body has no runs, and no break moves
mid_none : (a e : ℕ) (xs : List ℕ) → e ≤ a → mid a e xs ≡ []
mid_none a e xs h = let z : e - a ≡ 0 = omega arith in rw z

module _ (s : AxisSetup) (is ss fs ls bs : List ℕ) (h : below (s.last + 1) is ≤ below (body_start s.title s.first) is) where
  pub empty_runs : body_runs s is ss fs ls bs ≡ []
  unfolding body_runs
  empty_runs = rw (mid_none _ _ is h, mid_none _ _ ss h) (none_runs (frame_of s) fs ls bs)

  pub empty_tally : body_tally s is ss fs ls bs ≡ tallies 0 0 0
  unfolding body_tally axis_tally expansions
  empty_tally = rw (mid_none _ _ is h, mid_none _ _ ss h) (rw (none_runs (frame_of s) fs ls bs, none_shifts (frame_of s) fs ls bs))

-- ---- the answer and the lent list

pub refuses : (o : Outcome Tally) (rs : List Run) (n : Refusal) (l : List ℕ) → o ≡ refused (number_of n) → Answered o rs (Err n) l l
refuses o rs n l e = rw e (record { answer = refl; list_is = refl })

pub answers : (o : Outcome Tally) (rs : List Run) (t : Tally) (n : ℕ) (old new : List ℕ) → o ≡ given t → Written rs n old new
    → Answered o rs (Ok t) old new
answers o rs t n old new e w = rw e (record { answer = refl; list_is = w.list_is })

pub no_room : (rs : List Run) (t : Tally) (room : ℕ) → room < length rs → room_for rs t room ≡ refused 11
no_room rs t room h = rw (lt-leb (length rs) room h)

pub room_enough : (rs : List Run) (t : Tally) (room : ℕ) → length rs ≤ room → room_for rs t room ≡ given t
room_enough rs t room h = rw (le-leb (length rs) room h)

-- an empty body: nothing is written
pub answers_empty : (s : AxisSetup) (is ss fs ls bs list : List ℕ) → below (s.last + 1) is ≤ below (body_start s.title s.first) is
    → Answered (fits s is ss fs ls bs (room_in list)) (body_runs s is ss fs ls bs) (Ok (tallies 0 0 0)) list list
unfolding flat
answers_empty s is ss fs ls bs list h =
    rw (empty_runs s is ss fs ls bs h, empty_tally s is ss fs ls bs h, le-leb 0 (room_in list) (omega arith))
    (record { answer = refl; list_is = refl })

-- the runs of the slots that were found are the body's
abbrev pub frame_at : AxisSetup → ℕ → Frame
frame_at s start = record { untitled = s.untitled; titled = s.titled; title = s.title; lo = start; hi = s.last }

module _ (s : AxisSetup) (is ss fs ls bs : List ℕ) (start from to : ℕ) where
  abbrev found : List Run
  found = axis_runs (frame_at s start) fs ls (mid from to is) (mid from to ss) 0 bs

  abbrev found_tally : Tally
  found_tally = axis_tally (frame_at s start) fs ls (mid from to is) (mid from to ss) bs

  pub found_body : start ≡ body_start s.title s.first → from ≡ below start is → to ≡ below (s.last + 1) is
      → (n : ℕ) (r : Result Tally Refusal) (old new : List ℕ) → Answered (room_for found found_tally n) found r old new
      → Answered (fits s is ss fs ls bs n) (body_runs s is ss fs ls bs) r old new
  unfolding body_runs body_tally
  found_body e₁ e₂ e₃ n r old new h = rw (← e₁, ← e₂, ← e₃) h
