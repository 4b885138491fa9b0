-- The one pass over the records answers each question as its definition does, and counts the items. Assumes nothing.
use mathlib.Core.Path.{◌≡◌, refl, sym, ap, ◌∙◌}
use mathlib.Core.Bool.{Bool, true, false, true≢false, cond, not, ◌&&◌, ◌||◌, and-true, and_assoc}
use mathlib.Core.List.{List, [], ◌∷◌}
use Prim.Native.Nat.{ℕ, ◌+◌, ◌-◌, ◌≤◌, ◌<◌}
use native.Mathlib.Nat.{zero-add, add-zero}
use native.Mathlib.Omega.{arith}
use lib.Dec.{ltb, eqb}
use lib.ListN.{length, take, drop}
use borrow.Author.Tests.{le-leb, lt-leb, ltb-true, eq-eqb, ne_eqb, eqb-true}
use Rattle.units.specs.Outcome.{given, refused}
use Rattle.job_records.specs.declared.records.Record.{Record}
use Rattle.job_records.specs.declared.records.Record.TheVariants.{Paper, Landscape, Margin, Scale, Wide, High, Fit, Order, Headings, Limit, Cells, Area}
use Rattle.job_records.specs.declared.records.Record.TheVariants.{TitleRows, TitleColumns, Row, Column, Merged, RowBreak, ColumnBreak, End}
use Rattle.job_records.specs.declared.records.Head.{Head}
use Rattle.std.specs.Prelude.{leb, Option, Some, None, is_some, Result, Ok, Err, IsErrAnd}
use Rattle.units.specs.declared.refusal.Refusal.{Refusal}
use Rattle.units.specs.declared.refusal.Refusal.TheVariants.{TooManyBytes, BrokenRecord, EndNotLast}
use Rattle.units.specs.Refusals.{number_of, outcome}
use Rattle.job_questions.specs.declared.Items.{Items}
use Rattle.job_questions.specs.declared.State.{State}
use Rattle.job_records.specs.Records.{AR, RW, CL, MR, BR, BC, head_record, step_outcome, step, rank, is_end, goes_on, ended, records, rest, marked, values}
use Rattle.units.specs.Grid.{last_row, last_column}
use Rattle.planner_rules.specs.Areas.{one_to_eight}
use Rattle.job_walk.specs.Walk.{Sorted}
use Rattle.job_questions.specs.Verdict.{asked, every, repeats, follows, ordered, flag_ok, not_reversed, in_grid, sized, rising}
use Rattle.job_questions.specs.Verdict.{question1, question2, question3, question4, question5, question6, question7, question8, question9}
use Rattle.job_questions.specs.Verdict.{question15, in_order, questions, items_of, verdict_lent}
use Rattle.job_questions.specs.Pass.{placed, rows_after, columns_after, one_more, counted}
use Rattle.job_questions.specs.Pass.{start, advanced, after, surveyed, first_no, answer, rank_in}
use Rattle.planner_rules.specs.Partition.{no_of}
use Rattle.job_records.proofs.RecordLaws.{records_more, rest_more, records_stop, rest_stop, step_is, step_used}
use Rattle.std.proofs.lemmas.Bool.{and_parts}
use Rattle.std.proofs.lemmas.List.{take_rest}
use Rattle.planner_rules.proofs.Laws.{either}
use Rattle.planner_rules.proofs.QuestionLaws.{positive as positive_number}

-- ---- the first no

pub no_here : (n : ℕ) (q : Bool) (qs : List (ℕ × Bool)) → q ≡ false → n ≡ first_no ((n, q) ∷ qs)
unfolding first_no
no_here n q qs e = rw e

pub yes_here : (n x : ℕ) (q : Bool) (qs : List (ℕ × Bool)) → q ≡ true → x ≡ first_no qs → x ≡ first_no ((n, q) ∷ qs)
unfolding first_no
yes_here n x q qs e k = rw e k

pub none_no : 0 ≡ first_no []
unfolding first_no
none_no = refl

-- no no: each is a yes
abbrev pub All : List (ℕ × Bool) → Type 0
All [] = Unit {0}
All ((n, q) ∷ qs) = (q ≡ true) × All qs

-- no question has the number 0
abbrev positive : List (ℕ × Bool) → Bool
positive [] = true
positive ((n, q) ∷ qs) = ltb 0 n && positive qs

module _ {A : Type 0} (v : A) where
  -- a no among questions is the answer
  pub in_order_no : (qs : List (ℕ × Bool)) (x : ℕ) → x ≡ first_no qs → 0 < x → refused x ≡ in_order qs v
  unfolding first_no
  in_order_no [] x e h = absurd (omega arith)
  in_order_no ((n, true) ∷ qs) x e h = in_order_no qs x e h
  in_order_no ((n, false) ∷ qs) x e h = ap refused e

  -- where all are answered yes, v is
  pub in_order_yes : (qs : List (ℕ × Bool)) → positive qs ≡ true → 0 ≡ first_no qs → given v ≡ in_order qs v
  unfolding first_no
  in_order_yes [] p e = refl
  in_order_yes ((n, true) ∷ qs) p e = in_order_yes qs (and_parts (ltb 0 n) (positive qs) p).1 e
  in_order_yes ((n, false) ∷ qs) p e = absurd (omega (arith, ltb-true 0 n (and_parts (ltb 0 n) (positive qs) p).0))

-- ---- the number that a state and the records still to come give

-- whether slots with these indexes rise on, where n is the least that may come next
abbrev rising_on : ℕ → Option ℕ → List ℕ → Bool
rising_on top None is = false
rising_on top (Some n) is = rising top n is

rising_none : (top : ℕ) (n : Option ℕ) → is_some n ≡ rising_on top n []
unfolding rising
rising_none top None = refl
rising_none top (Some n) = refl

module _ (even cells : Bool) where
  unfoldable pub number : State → List Record → ℕ
  number t rs =
      first_no
      ((4, (t.ordered && ordered (rank_in t.last) rs) && one_to_eight (t.items.areas + length (marked AR rs)))
      ∷ (5, t.fine.flag && every flag_ok rs)
      ∷ (6, even && (t.fine.first && every not_reversed rs))
      ∷ (7, t.fine.grid && every in_grid rs)
      ∷ (15, cells)
      ∷ (8, rising_on last_row t.rows (values RW 0 rs) && rising_on last_column t.columns (values CL 0 rs))
      ∷ (9, t.fine.size && every sized rs)
      ∷ [])

  pub number_end : (t : State) → answer even cells t ≡ number t []
  unfolding answer number ordered every marked
  number_end t = simp (and-true, add-zero, rising_none last_row t.rows, rising_none last_column t.columns)

-- a slot more of an axis
placed_more : (top : ℕ) (n : Option ℕ) (i : ℕ) (is : List ℕ) → rising_on top n (i ∷ is) ≡ rising_on top (placed top n i) is
unfolding rising
placed_more top None i is = refl
placed_more top (Some n) i is = go (leb n i) (leb i top)
  where
    go : (a b : Bool) → a && (b && rising top (i + 1) is) ≡ rising_on top (cond (a && b) (Some (i + 1)) None) is
    go true true = refl
    go true false = refl
    go false b = refl

-- a record more: of another kind than an axis' slots, it leaves that axis as it is
axes_step : (a b : Option ℕ) (r : Record) (rs : List Record)
    → (rising_on last_row a (values RW 0 (r ∷ rs)) ≡ rising_on last_row (rows_after a (asked r)) (values RW 0 rs))
    × (rising_on last_column b (values CL 0 (r ∷ rs)) ≡ rising_on last_column (columns_after b (asked r)) (values CL 0 rs))
unfolding marked
axes_step a b (Paper x) rs = (refl, refl)
axes_step a b Landscape rs = (refl, refl)
axes_step a b (Margin m) rs = (refl, refl)
axes_step a b (Scale x) rs = (refl, refl)
axes_step a b (Wide x) rs = (refl, refl)
axes_step a b (High x) rs = (refl, refl)
axes_step a b (Fit x) rs = (refl, refl)
axes_step a b (Order x) rs = (refl, refl)
axes_step a b Headings rs = (refl, refl)
axes_step a b (Limit x) rs = (refl, refl)
axes_step a b (Cells x) rs = (refl, refl)
axes_step a b (Area x) rs = (refl, refl)
axes_step a b (TitleRows f l) rs = (refl, refl)
axes_step a b (TitleColumns f l) rs = (refl, refl)
axes_step a b (Row s) rs = (placed_more last_row a s.index (values RW 0 rs), refl)
axes_step a b (Column s) rs = (refl, placed_more last_column b s.index (values CL 0 rs))
axes_step a b (Merged m) rs = (refl, refl)
axes_step a b (RowBreak c) rs = (refl, refl)
axes_step a b (ColumnBreak c) rs = (refl, refl)
axes_step a b End rs = (refl, refl)

-- a record more is counted, or not
one_more_lem : (n : ℕ) (b : Bool) (r : Record) (l : List Record) → (n + cond b 1 0) + length l ≡ n + length (cond b (r ∷ l) l)
one_more_lem n true r l = omega arith
one_more_lem n false r l = omega arith

module _ (even cells : Bool) where
  pub number_step : (t : State) (r : Record) (rs : List Record) → number even cells t (r ∷ rs) ≡ number even cells (advanced t r) rs
  unfolding number ordered every marked
  number_step t r rs =
      rw (
        ← (and_assoc t.ordered (follows (rank_in t.last) (rank r)) (ordered (rank r) rs)),
        ← one_more_lem t.items.areas (eqb (rank r) AR) r (marked AR rs),
        ← (and_assoc t.fine.flag (flag_ok (asked r)) (every flag_ok rs)),
        ← (and_assoc t.fine.first (not_reversed (asked r)) (every not_reversed rs)),
        ← (and_assoc t.fine.grid (in_grid (asked r)) (every in_grid rs)),
        (axes_step t.rows t.columns r rs).0,
        (axes_step t.rows t.columns r rs).1,
        ← (and_assoc t.fine.size (sized (asked r)) (every sized rs)),
      )

  pub number_after : (t : State) (rs : List Record) → answer even cells (after t rs) ≡ number even cells t rs
  unfolding after
  number_after t [] = number_end even cells t
  number_after t (r ∷ rs) = number_after (advanced t r) rs ∙ sym (number_step t r rs)

-- ---- the items that were counted

counts : (g : Items → ℕ) (j : ℕ) → ((c : Items) (k : ℕ) → g (counted c k) ≡ one_more (g c) k j) → (t : State) (rs : List Record)
    → g (after t rs).items ≡ g t.items + length (marked j rs)
unfolding after marked
counts g j h t [] = omega arith
counts g j h t (r ∷ rs) =
    counts g j h (advanced t r) rs ∙ ap (λ (n : ℕ). n + length (marked j rs)) (h t.items (rank r)) ∙ one_more_lem (g t.items) (eqb (rank r) j) r
    (marked j rs)

pub items_after : (rs : List Record) → (after start rs).items ≡ items_of rs
items_after rs =
    rw (
      ← (counts (λ (c : Items). c.areas) AR (λ c k. refl) start rs ∙ zero-add _),
      ← (counts (λ (c : Items). c.rows) RW (λ c k. refl) start rs ∙ zero-add _),
      ← (counts (λ (c : Items). c.columns) CL (λ c k. refl) start rs ∙ zero-add _),
      ← (counts (λ (c : Items). c.merges) MR (λ c k. refl) start rs ∙ zero-add _),
      ← (counts (λ (c : Items). c.row_breaks) BR (λ c k. refl) start rs ∙ zero-add _),
      ← (counts (λ (c : Items). c.column_breaks) BC (λ c k. refl) start rs ∙ zero-add _),
    )

-- each item took a byte at least: k bytes of n are left
pub record Room (c : Items) (k n : ℕ) : Type 0 where
  pub areas : c.areas + k ≤ n
  pub rows : c.rows + k ≤ n
  pub columns : c.columns + k ≤ n
  pub merges : c.merges + k ≤ n
  pub row_breaks : c.row_breaks + k ≤ n
  pub column_breaks : c.column_breaks + k ≤ n

bit : (b : Bool) → cond b 1 0 ≤ 1
bit b = either (λ (n : ℕ). n ≤ 1) b (omega arith) (omega arith)

room_more : (c : Items) (k n u x : ℕ) → Room c k n → 1 ≤ u → u ≤ k → Room (counted c x) (k - u) n
room_more c k n u x w h l = record {
  areas = omega (arith, w.areas, bit (eqb x AR));
  rows = omega (arith, w.rows, bit (eqb x RW));
  columns = omega (arith, w.columns, bit (eqb x CL));
  merges = omega (arith, w.merges, bit (eqb x MR));
  row_breaks = omega (arith, w.row_breaks, bit (eqb x BR));
  column_breaks = omega (arith, w.column_breaks, bit (eqb x BC));
}

-- ---- what the loop of `survey_job` knows: s is what is left of b, and t what was carried so far

pub record Seen (b s : List ℕ) (t : State) : Type 0 where
  pub same_rest : rest s ≡ rest b
  pub same_after : after t (records s) ≡ after start (records b)
  pub room : Room t.items (length s) (length b)

module _ (b s : List ℕ) (t : State) (w : Seen b s t) (f : Option Head) (o : step_outcome f ≡ head_record s) where
  pub seen_more : (h : Head) (x : ℕ) (u : State) → f ≡ Some h → x ≡ rank h.found → (x ≡ 20 → ⊥) → u ≡ advanced t h.found
      → Seen b (take (length s - h.bytes) (drop h.bytes s)) u
  unfolding after
  seen_more h x u k i l j =
      let z : step s ≡ Some h = sym (step_is s f o) ∙ k in
      let m = step_used s f h (step_is s f o) k in
      let g : is_end h.found ≡ false = ne_eqb (rank h.found) 20 (λ q. l (i ∙ q)) in
      rw (take_rest s h.bytes, j) (record {
        same_rest = sym (rest_more s h z m.0 m.1 g) ∙ w.same_rest;
        same_after = ap (after t) (sym (records_more s h z m.0 m.1 g)) ∙ w.same_after;
        room = rw (lib.ListN.length-drop h.bytes s) (room_more t.items (length s) (length b) h.bytes (rank h.found) w.room m.0 m.1);
      })

  stop : (g : goes_on (step s) ≡ false) → rest b ≡ s
  stop g = sym w.same_rest ∙ rest_stop s g

  -- no record at the head
  pub seen_nothing : length b ≤ 60000 → f ≡ None → Err BrokenRecord ≡ surveyed b
  unfolding surveyed goes_on ended
  seen_nothing l k =
      let z : step s ≡ None = sym (step_is s f o) ∙ k in
      let h : rest b ≡ s = stop (ap goes_on z) in
      rw (le-leb (length b) 60000 l, h, z)

  module _ (g : Head) (x : ℕ) (k : f ≡ Some g) (i : x ≡ rank g.found) (h : x ≡ 20) (l : length b ≤ 60000) where
    at_end : rest b ≡ s
    unfolding goes_on
    at_end = stop (ap goes_on (sym (step_is s f o) ∙ k) ∙ ap not (eq-eqb (rank g.found) 20 (sym i ∙ h)))

    is_end_lem : ended (step (rest b)) ≡ true
    unfolding ended
    is_end_lem = ap (λ (y : List ℕ). ended (step y)) at_end ∙ ap ended (sym (step_is s f o) ∙ k) ∙ eq-eqb (rank g.found) 20 (sym i ∙ h)

    -- an EN that is not last
    pub seen_early : (length s ≡ 2 → ⊥) → Err EndNotLast ≡ surveyed b
    unfolding surveyed
    seen_early q = rw (le-leb (length b) 60000 l, is_end_lem, at_end, ne_eqb (length s) 2 q)

    -- an EN that is last
    pub seen_end : length s ≡ 2 → Ok t ≡ surveyed b
    unfolding surveyed goes_on after
    seen_end q =
        let e : records s ≡ [] = records_stop s (ap goes_on (sym (step_is s f o) ∙ k) ∙ ap not (eq-eqb (rank g.found) 20 (sym i ∙ h))) in
        let a : t ≡ after start (records b) = ap (after t) (sym e) ∙ w.same_after in
        rw (le-leb (length b) 60000 l, is_end_lem, at_end, eq-eqb (length s) 2 q) (ap Ok a)

-- too many bytes
pub too_long : (b : List ℕ) → 60000 < length b → Err TooManyBytes ≡ surveyed b
unfolding surveyed
too_long b h = rw (lt-leb (length b) 60000 h)

-- ---- marks that never fall

from_follows : (k n : ℕ) → follows k n ≡ true → k ≤ n
from_follows k n e = go (ltb k n) (eqb k n) refl refl e
  where
    go : (a b : Bool) → ltb k n ≡ a → eqb k n ≡ b → a || (b && repeats n) ≡ true → k ≤ n
    go true b h i e = omega (arith, ltb-true k n h)
    go false true h i e = omega (arith, eqb-true k n i)
    go false false h i e = absurd (true≢false (sym e))

pub sorted_of : (k : ℕ) (rs : List Record) → ordered k rs ≡ true → Sorted k rs
unfolding ordered
sorted_of k [] e = tt
sorted_of k (r ∷ rs) e =
    let w = and_parts (follows k (rank r)) (ordered (rank r) rs) e in
    (from_follows k (rank r) w.0, sorted_of (rank r) rs w.1)

ordered_after : (t : State) (rs : List Record) → (after t rs).ordered ≡ t.ordered && ordered (rank_in t.last) rs
unfolding after ordered
ordered_after t [] = sym (and-true t.ordered)
ordered_after t (r ∷ rs) = ordered_after (advanced t r) rs ∙ and_assoc t.ordered (follows (rank_in t.last) (rank r)) (ordered (rank r) rs)

-- what a pass tells that found the marks in order
pub sorted_after : (t : State) (rs : List Record) → t ≡ after start rs → t.ordered ≡ true → Sorted 0 rs
sorted_after t rs e h = sorted_of 0 rs (sym (ordered_after start rs) ∙ ap (λ (u : State). u.ordered) (sym e) ∙ h)

pub areas_after : (t : State) (rs : List Record) → t ≡ after start rs → t.items.areas ≡ length (marked AR rs)
areas_after t rs e = ap (λ (u : State). u.items.areas) e ∙ ap (λ (c : Items). c.areas) (items_after rs)

-- ---- what a survey tells of the answer

-- a refusal that was handed on
pub handed_on : {A : Type 0} (r : Result A Refusal) (x : Refusal) → IsErrAnd r (λ (y : Refusal). y ≡ x) → outcome r ≡ refused (number_of x)
handed_on (Ok a) x h = absurd h
handed_on (Err y) x h = ap (λ (z : Refusal). refused (number_of z)) h

module _ {A : Type 0} (v : A) (qs : List (ℕ × Bool)) (s : List ℕ) (f : Result State Refusal) (e : f ≡ surveyed s) where
  -- one of the questions 1 to 3 is answered no
  survey_stopped : (n : Refusal) → f ≡ Err n → refused (number_of n) ≡ in_order ((1, question1 s) ∷ (2, question2 s) ∷ (3, question3 s) ∷ qs) v
  unfolding surveyed
  survey_stopped n k = go (question1 s) (question2 s) (question3 s) (sym k ∙ e)
    where
      go : (a b c : Bool) → Err n ≡ cond a (cond b (cond c (Ok (after start (records s))) (Err EndNotLast)) (Err BrokenRecord)) (Err TooManyBytes)
          → refused (number_of n) ≡ in_order ((1, a) ∷ (2, b) ∷ (3, c) ∷ qs) v
      go true true true h = absurd (cc)
      go true true false h = let i : n ≡ EndNotLast = cc in ap (λ (m : Refusal). refused (number_of m)) i
      go true false c h = let i : n ≡ BrokenRecord = cc in ap (λ (m : Refusal). refused (number_of m)) i
      go false b c h = let i : n ≡ TooManyBytes = cc in ap (λ (m : Refusal). refused (number_of m)) i

  -- they are answered yes, and t is what was carried past the records
  survey_whole : (t : State) → f ≡ Ok t
      → (in_order qs v ≡ in_order ((1, question1 s) ∷ (2, question2 s) ∷ (3, question3 s) ∷ qs) v) × (t ≡ after start (records s))
  unfolding surveyed
  survey_whole t k = go (question1 s) (question2 s) (question3 s) (sym k ∙ e)
    where
      go : (a b c : Bool) → Ok t ≡ cond a (cond b (cond c (Ok (after start (records s))) (Err EndNotLast)) (Err BrokenRecord)) (Err TooManyBytes)
          → (in_order qs v ≡ in_order ((1, a) ∷ (2, b) ∷ (3, c) ∷ qs) v) × (t ≡ after start (records s))
      go true true true h = (refl, cc)
      go true true false h = absurd (cc)
      go true false c h = absurd (cc)
      go false b c h = absurd (cc)

-- the questions from 4 on
abbrev later : Bool → List ℕ → List (ℕ × Bool)
later even s =
    (4, question4 s) ∷ (5, question5 s) ∷ (6, question6 even s) ∷ (7, question7 s) ∷ (15, question15 s) ∷ (8, question8 s) ∷ (9, question9 s) ∷ []

module _ (even : Bool) (s : List ℕ) (f : Result State Refusal) (e : f ≡ surveyed s) where
  -- one of the questions 1 to 3 is answered no
  pub job_stopped : (n : Refusal) → f ≡ Err n → refused (number_of n) ≡ verdict_lent even s
  unfolding verdict_lent
  job_stopped n k = survey_stopped (items_of (records s)) (later even s) s f e n k

  module _ (t : State) (k : f ≡ Ok t) where
    whole : (in_order (later even s) (items_of (records s)) ≡ in_order (questions even s) (items_of (records s))) × (t ≡ after start (records s))
    whole = survey_whole (items_of (records s)) (later even s) s f e t k

    pub job_state : t ≡ after start (records s)
    job_state = whole.1

    module _ (x : Result (Unit {0}) Refusal) (i : no_of x ≡ answer even (question15 s) t) where
      is_first : no_of x ≡ first_no (later even s)
      unfolding number
      is_first =
          i ∙ ap (answer even (question15 s)) whole.1 ∙ number_after even (question15 s) start (records s)
          ∙ ap (λ (n : ℕ). first_no ((4, ordered 0 (records s) && one_to_eight n) ∷ drop 1 (later even s))) (zero-add (length (marked AR (records s))))

      -- one of the others is
      pub job_no : (r : Refusal) → x ≡ Err r → refused (number_of r) ≡ verdict_lent even s
      unfolding verdict_lent
      job_no r h =
          in_order_no (items_of (records s)) (later even s) (number_of r) (sym (ap no_of h) ∙ is_first) (positive_number r) ∙ whole.0

      -- none is
      pub job_yes : (u : Unit {0}) → x ≡ Ok u → given t.items ≡ verdict_lent even s
      unfolding verdict_lent
      job_yes u h =
          ap given (ap (λ (u : State). u.items) whole.1 ∙ items_after (records s))
          ∙ in_order_yes (items_of (records s)) (later even s) refl (sym (ap no_of h) ∙ is_first)
          ∙ whole.0
