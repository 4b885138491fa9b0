-- The words of demand 3 on the fit scale (document 01, "Scale", from "For demand 3" on), over plain numbers and lists. Nothing here says
-- how runs are found or how a permille is searched. Assumes nothing.
use Rattle.std.specs.Prelude.{◌≡◌, ◌⊎◌, List, ℕ, ◌+◌, ◌*◌, ◌/◌, ◌≤◌, length}
use Rattle.planner_rules.specs.Slots.{sum}
use Rattle.planner_rules.specs.Division.{◌∈◌, Division, pieces}

-- "size plus headings, scaled and rounded, is at most the side"
abbrev pub RoundedFits : ℕ → ℕ → ℕ → ℕ → Type 0
RoundedFits side headings permille size = (permille * (size + headings) + 500) / 1000 ≤ side

-- "A run of two or more fits when permille × (size + headings) ≤ 1,000 × side; a single slot when .. scaled and rounded": a run is its sizes
pub record FitsPage (side headings permille : ℕ) (run : List ℕ) : Type 0 where
  pub several : 2 ≤ length run → permille * (sum run + headings) ≤ 1000 * side
  pub single : length run ≡ 1 → RoundedFits side headings permille (sum run)

-- "A page target bounds an axis's number of runs .. unless 0."
abbrev pub MeetsTarget : ℕ → ℕ → Type 0
MeetsTarget target n = ¬ (target ≡ 0) → n ≤ target

-- the axis "has a division that meets its page target and whose runs all fit the page"
pub record Reaches (side headings target : ℕ) (sizes : List ℕ) (permille : ℕ) : Type 0 where
  pub slots : List ℕ
  pub division : Division (length sizes) slots
  pub meets : MeetsTarget target (length slots)
  pub fit : (run : List ℕ) → run ∈ pieces slots sizes → FitsPage side headings permille run

-- r is the largest number from low to high of which P holds
pub record Largest (P : ℕ → Type 0) (low high r : ℕ) : Type 0 where
  pub not_below : low ≤ r
  pub not_above : r ≤ high
  pub holds : P r
  pub none_larger : (q : ℕ) → q ≤ high → P q → q ≤ r

-- 100 is a permille at which P holds: "the largest permille from 100 to 1,000 was taken at which" it does, and nothing was noted
pub record Reached (P : ℕ → Type 0) (permille unreachable : ℕ) : Type 0 where
  pub at_100 : P 100
  pub largest : Largest P 100 1000 permille
  pub unnoted : unreachable ≡ 0

-- "'unreachable' was noted, once, exactly if 100 is no such permille, and then 100 was taken"
pub record Missed (P : ℕ → Type 0) (permille unreachable : ℕ) : Type 0 where
  pub not_at_100 : ¬ (P 100)
  pub taken : permille ≡ 100
  pub noted : unreachable ≡ 1

-- one of the two
abbrev pub Chosen : (ℕ → Type 0) → ℕ → ℕ → Type 0
Chosen P permille unreachable = Reached P permille unreachable ⊎ Missed P permille unreachable
