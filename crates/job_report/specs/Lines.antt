-- What a plan is told by: document 01, section "Jobs", and document 02, T-02, in bytes of ASCII; and text in a lent array. Assumes nothing.
use Rattle.std.specs.Prelude.{◌≡◌, cond, List, [], ◌∷◌, ◌++◌, ℕ, zero, suc, ◌+◌, ◌/◌, ◌%◌, ltb, length, get_or, take, drop}
use Rattle.units.specs.Outcome.{Outcome, given, refused}
use Rattle.planner_rules.specs.declared.pages.Notes.{Notes}
use Rattle.planner_rules.specs.declared.pages.Page.{Page}
use Rattle.planner_rules.specs.declared.pages.Plan.{Plan}
use Rattle.planner_rules.specs.Slots.{written}
use Rattle.planner_rules.specs.Areas.{plans_in, no_plan}
use Rattle.job_report.specs.declared.text.Text.{Text}

-- ---- a line

-- the digits of n, of which no more than so many are written, the last ones: those of n / 10 where n is 10 or more, then the last digit; `0` is 48
unfoldable pub digits_within : ℕ → ℕ → List ℕ
digits_within zero n = []
digits_within (suc most) n = cond (ltb n 10) [] (digits_within most (n / 10)) ++ ((48 + n % 10) ∷ [])

-- n in decimal, by the fewest digits; they are no more than n + 1
unfoldable pub decimal : ℕ → List ℕ
unfolding digits_within
decimal n = digits_within (suc n) n

-- each number after a space
unfoldable pub numbers : List ℕ → List ℕ
unfolding decimal
numbers [] = []
numbers (n ∷ ns) = 32 ∷ decimal n ++ numbers ns

-- a word, its numbers, and a line end
unfoldable pub line : List ℕ → List ℕ → List ℕ
unfolding numbers
line word ns = word ++ numbers ns ++ (10 ∷ [])

-- ---- the lines of a plan

-- "the first area's permille"
abbrev pub first_permille : Plan → ℕ
first_permille p = (get_or (plans_in p.areas) 0 no_plan).permille

-- "Permille, pages", after `plan`: "The plan line shows the first area's permille", and the pages' total
unfoldable pub plan_line : Plan → List ℕ
unfolding line
plan_line p = line (112 ∷ 108 ∷ 97 ∷ 110 ∷ []) (first_permille p ∷ p.pages ∷ [])

-- "notes in order", after `notes`: "unknown paper, margins, clamp, unreachable, titles ignored, titles expanded, merge expansions, break
-- shifts, overflowing runs"
unfoldable pub notes_line : Notes → List ℕ
unfolding line
notes_line n =
    line (110 ∷ 111 ∷ 116 ∷ 101 ∷ 115 ∷ [])
    (n.unknown_paper ∷ n.invalid_margins ∷ n.scale_clamped ∷ n.fit_unreachable ∷ n.titles_ignored ∷ n.titles_expanded
    ∷ n.merge_expansions ∷ n.break_shifts ∷ n.overflowing_runs ∷ [])

-- "a line `area` with its number from 1 and its permille"
unfoldable pub area_line : ℕ → ℕ → List ℕ
unfolding line
area_line number permille = line (97 ∷ 114 ∷ 101 ∷ 97 ∷ []) (number ∷ permille ∷ [])

-- "page number, vertical, horizontal, first and last row, first and last column, row size, column size", after `page`
unfoldable pub page_line : ℕ → Page → List ℕ
unfolding line
page_line number p =
    line (112 ∷ 97 ∷ 103 ∷ 101 ∷ [])
    (number ∷ p.vertical ∷ p.horizontal ∷ p.rows.first ∷ p.rows.last ∷ p.columns.first ∷ p.columns.last ∷ p.rows.size ∷ p.columns.size ∷ [])

-- "A refusal prints `no` and its number."
unfoldable pub refusal_line : ℕ → List ℕ
unfolding line
refusal_line n = line (110 ∷ 111 ∷ []) (n ∷ [])

-- the lines that stand before those of the pages, or the refusal
unfoldable pub head_lines : Outcome Plan → List ℕ
unfolding plan_line notes_line refusal_line
head_lines (given p) = plan_line p ++ notes_line p.notes
head_lines (refused n) = refusal_line n

-- ---- text in a lent array

-- the answer r of a call that puts lines at the start of an array, which was `old`: how many bytes; and the array, the lines followed by
-- what stood there before
pub record LinesPut (lines : List ℕ) (r : ℕ) (old new : List ℕ) : Type 0 where
  pub count : r ≡ length lines
  pub array_is : new ≡ written lines old

-- an array that was `old`, with a text in it from the place `at` on: what stood before that place, the text, and what stood behind it
abbrev pub put : ℕ → List ℕ → List ℕ → List ℕ
put at text old = take at old ++ written text (drop at old)

-- the same of a text from a place on, where r is the place after it (for the private functions)
pub record PutAt (text : List ℕ) (at r : ℕ) (old new : List ℕ) : Type 0 where
  pub after : r ≡ at + length text
  pub array_is : new ≡ put at text old

-- the same of a lent array and the place in it that the next text goes to; the array stays the one that was lent, and as long
pub record TextPut (text : List ℕ) (old new : Text) : Type 0 where
  pub put : PutAt text old.at new.at old.out.now new.out.now
  pub long : length new.out.now ≡ length old.out.now
  pub lent : new.out.ghost_name ≡ old.out.ghost_name
