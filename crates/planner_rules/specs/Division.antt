-- The words of demand 3 (document 01, "Scale", from "For demand 3" on, and "Pages"), over plain lists of numbers: a division is its runs'
-- numbers of slots, in order. Nothing here says how runs are found. Assumes nothing.
use Rattle.std.specs.Prelude.{◌≡◌, ◌⊎◌, cond, ◌&&◌, List, [], ◌∷◌, map, ℕ, ◌+◌, ◌-◌, ◌≤◌, ◌<◌, length, get_or, take, drop, ltb}
use Rattle.planner_rules.specs.Slots.{sum, below}

infix 40 ◌∈◌
-- x is one of the list
abbrev pub ◌∈◌ : {A : Type 0} → A → List A → Type 0
x ∈ [] = ⊥
x ∈ (y ∷ ys) = (x ≡ y) ⊎ (x ∈ ys)

-- ---- divisions

-- "A division splits an axis's body slots, in order, into runs of at least one slot; no slots give no runs": n slots into runs of ns slots
pub record Division (n : ℕ) (ns : List ℕ) : Type 0 where
  pub nonempty : (m : ℕ) → m ∈ ns → 1 ≤ m
  pub whole : sum ns ≡ n

-- the places where runs of ns slots start, the first of them at p
unfoldable pub starts_from : ℕ → List ℕ → List ℕ
starts_from p [] = []
starts_from p (n ∷ ns) = p ∷ starts_from (p + n) ns

-- "It cuts at a break when a run starts at the break's position": at each of the places a run starts
abbrev pub CutsAt : List ℕ → List ℕ → Type 0
CutsAt places ns = (b : ℕ) → b ∈ places → b ∈ starts_from 0 ns

-- what each run has of a list that is as long as the slots: the first n, then the next
unfoldable pub pieces : {A : Type 0} → List ℕ → List A → List (List A)
pieces [] xs = []
pieces (n ∷ ns) xs = take n xs ∷ pieces ns (drop n xs)

-- "keeps runs of two or more slots within capacity"
abbrev pub Within : ℕ → List ℕ → List ℕ → Type 0
Within cap sizes ns = (run : List ℕ) → run ∈ pieces ns sizes → 2 ≤ length run → sum run ≤ cap

-- "a division that cuts at every kept manual break and keeps runs of two or more slots within capacity, and no division that does both has
-- fewer runs"
pub record Fewest (cap : ℕ) (cuts sizes ns : List ℕ) : Type 0 where
  pub division : Division (length sizes) ns
  pub cuts_at_kept : CutsAt cuts ns
  pub within_capacity : Within cap sizes ns
  pub none_fewer : (ms : List ℕ) → Division (length sizes) ms → CutsAt cuts ms → Within cap sizes ms → length ns ≤ length ms

-- the kept manual breaks, where there are no merges and no title: "position = first slot not below the break"; a position past the last kept
-- one and before the end is kept
unfoldable pub kept_breaks : List ℕ → ℕ → List ℕ → List ℕ
kept_breaks is prev [] = []
kept_breaks is prev (b ∷ bs) =
    let p = below b is in
    let with = p ∷ kept_breaks is p bs in
    let without = kept_breaks is prev bs in
    cond (ltb prev p && ltb p (length is)) with without

-- ---- runs

-- the first and the last of some
abbrev pub first_of : List ℕ → ℕ
first_of xs = get_or xs 0 0

abbrev pub last_of : List ℕ → ℕ
last_of xs = get_or xs (length xs - 1) 0

-- of runs of ns slots: first, last and size are the first index, the last index and the sum of sizes of what the run has
pub record Tells (indexes sizes ns firsts lasts totals : List ℕ) : Type 0 where
  pub firsts_are : firsts ≡ map first_of (pieces ns indexes)
  pub lasts_are : lasts ≡ map last_of (pieces ns indexes)
  pub totals_are : totals ≡ map sum (pieces ns sizes)

-- runs that firsts, lasts and totals tell are such a division
pub record FewestRuns (cap : ℕ) (cuts indexes sizes firsts lasts totals : List ℕ) : Type 0 where
  pub slots : List ℕ
  pub tells : Tells indexes sizes slots firsts lasts totals
  pub fewest : Fewest cap cuts sizes slots

-- "A kept cut marks its run": 1 where the run starts at a kept cut, 0 elsewhere
abbrev pub MarkedAt : List ℕ → ℕ → ℕ → Type 0
MarkedAt cuts p mark = ((mark ≡ 1) × (p ∈ cuts)) ⊎ ((mark ≡ 0) × ¬ (p ∈ cuts))

-- so of each run of ns slots
pub record MarksKept (cuts ns marks : List ℕ) : Type 0 where
  pub as_many : length marks ≡ length ns
  pub each : (r : ℕ) → r < length ns → MarkedAt cuts (get_or (starts_from 0 ns) r 0) (get_or marks r 0)

-- ---- covering

-- the index lies in run number r: "from first to last"
pub record LiesIn (firsts lasts : List ℕ) (index r : ℕ) : Type 0 where
  pub there : r < length firsts
  pub not_before : get_or firsts r 0 ≤ index
  pub not_after : index ≤ get_or lasts r 0

-- it lies in exactly one run
pub record InOneRun (firsts lasts : List ℕ) (index : ℕ) : Type 0 where
  pub run : ℕ
  pub lies : LiesIn firsts lasts index run
  pub only : (r : ℕ) → LiesIn firsts lasts index r → r ≡ run

-- each slot's index does
abbrev pub Covered : List ℕ → List ℕ → List ℕ → Type 0
Covered indexes firsts lasts = (j : ℕ) → j < length indexes → InOneRun firsts lasts (get_or indexes j 0)
