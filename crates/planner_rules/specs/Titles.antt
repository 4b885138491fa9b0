-- Document 01, section "Titles". Assumes nothing.
use Rattle.std.specs.Prelude.{Bool, true, false, cond, not, ◌&&◌, List, [], ◌∷◌, ℕ, zero, suc, ◌+◌, min, max, leb, ltb, eqb, length}
use Rattle.units.specs.Grid.{last_row, last_column}
use Rattle.units.specs.Outcome.{Outcome, given}
use Rattle.planner_rules.specs.declared.titles.Axis.{Axis}
use Rattle.planner_rules.specs.declared.titles.Axis.TheVariants.{Rows, Columns}
use Rattle.planner_rules.specs.declared.titles.Title.{Title}
use Rattle.planner_rules.specs.declared.titles.Title.TheVariants.{Absent, Pair}
use Rattle.planner_rules.specs.declared.titles.Normalized.{Normalized}
use Rattle.planner_rules.specs.declared.titles.Span.{Span}
use Rattle.planner_rules.specs.declared.titles.Expanded.{Expanded}
use Rattle.planner_rules.specs.declared.titles.Widened.{Widened}
use Rattle.planner_rules.specs.Slots.{sum, below, mid}
use Rattle.planner_rules.specs.Questions.{ask, equally_long, all_ordered, all_within}

-- "A pair holds b when first < b ≤ last." (section "Runs")
abbrev pub holds : ℕ → ℕ → ℕ → Bool
holds f l b = ltb f b && leb b l

-- the title holds b
unfoldable pub title_holds : Title → ℕ → Bool
title_holds Absent b = false
title_holds (Pair f l) b = holds f l b

-- the slot lies past the title's last
unfoldable pub past_title : Title → ℕ → Bool
past_title Absent i = false
past_title (Pair f l) i = ltb l i

-- "Where a title, as widened, covers the range's first index, the body starts after the title's last; otherwise at the range's first."
unfoldable pub body_start : Title → ℕ → ℕ
body_start Absent first = first
body_start (Pair f l) first = cond (leb f first && leb first l) (l + 1) first

-- "The title's total sums all measured slots in the title pair."
unfoldable pub title_total : Title → List ℕ → List ℕ → ℕ
title_total Absent is ss = 0
title_total (Pair f l) is ss = sum (mid (below f is) (below (l + 1) is) ss)

-- ---- widening

-- the last index of the grid: "1,048,575 (rows) or 16,383 (columns)"
unfoldable pub limit_of : Axis → ℕ
limit_of Rows = last_row
limit_of Columns = last_column

-- "First above last, or last beyond [the limit]: ignored with a note."
unfoldable pub normalized : ℕ → Title → Normalized
normalized limit Absent = record { title = Absent; ignored = 0 }
normalized limit (Pair f l) =
    cond (leb f l && leb l limit) (record { title = Pair f l; ignored = 0 }) (record { title = Absent; ignored = 1 })

-- "widen the pair to each merge that meets it": to one, from f to l
unfoldable pub widen_to : Span → ℕ → ℕ → Span
widen_to s f l = cond (leb f s.last && leb s.first l) (record { first = min s.first f; last = max s.last l }) s

-- one of the "passes over all merges in given order"
unfoldable pub pass : List ℕ → List ℕ → Span → Span
pass [] ls s = s
pass (f ∷ fs) [] s = s
pass (f ∷ fs) (l ∷ ls) s = pass fs ls (widen_to s f l)

-- the same first and the same last
unfoldable pub same_span : Span → Span → Bool
same_span s t = eqb s.first t.first && eqb s.last t.last

-- a pass changes nothing
unfoldable pub still : List ℕ → List ℕ → Span → Bool
still fs ls s = same_span s (pass fs ls s)

-- a pair as it ends, with its notes
abbrev pub expanded_to : Span → ℕ → Expanded
expanded_to s n = record { title = Pair s.first s.last; expanded = n }

-- "passes repeat until one changes nothing, one note per changing pass": n notes so far, at most k more passes, and whether the next one
-- changes nothing
unfoldable pub passes : List ℕ → List ℕ → ℕ → Bool → Span → ℕ → Expanded
passes fs ls zero unchanged s n = expanded_to s n
passes fs ls (suc k) true s n = expanded_to s n
passes fs ls (suc k) false s n = passes fs ls k (still fs ls (pass fs ls s)) (pass fs ls s) (suc n)

-- a pair from f to l after its passes. A changing pass takes in a merge that none before it did, so that no more passes change than there
-- are merges, and the bound cuts nothing off (`settled` in `proofs/TitleLaws.antt`).
unfoldable pub expand : List ℕ → List ℕ → ℕ → ℕ → Expanded
expand fs ls f l = passes fs ls (length fs) (still fs ls (record { first = f; last = l })) (record { first = f; last = l }) 0

-- a title that was normalized, widened
unfoldable pub widened_from : List ℕ → List ℕ → Title → ℕ → Widened
widened_from fs ls Absent n = record { title = Absent; ignored = n; expanded = 0 }
widened_from fs ls (Pair f l) n = record { title = (expand fs ls f l).title; ignored = n; expanded = (expand fs ls f l).expanded }

-- the title as its merges leave it, with both counts of notes
unfoldable pub widened : ℕ → Title → List ℕ → List ℕ → Widened
widened limit title fs ls = widened_from fs ls (normalized limit title).title (normalized limit title).ignored

-- ---- the call

-- questions 6 and 7 of the merges, then the title ("titles are never refused")
unfoldable pub widen_title : ℕ → Title → List ℕ → List ℕ → Outcome Widened
widen_title limit title fs ls =
    ask 6 (equally_long fs ls && all_ordered fs ls)
    (ask 7 (all_within limit ls)
    (given (widened limit title fs ls)))

-- ---- for the private functions

-- no merge is one that p says; merges are two lists side by side
unfoldable pub no_merge : (ℕ → ℕ → Bool) → List ℕ → List ℕ → Bool
no_merge p [] ls = true
no_merge p (f ∷ fs) [] = true
no_merge p (f ∷ fs) (l ∷ ls) = not (p f l) && no_merge p fs ls

-- a merge meets the span and does not lie within it
abbrev pub widens : Span → ℕ → ℕ → Bool
widens s f l = leb f s.last && (leb s.first l && not (leb s.first f && leb l s.last))
