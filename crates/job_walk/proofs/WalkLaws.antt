-- Laws for the loops that walk the records of a job. Assumes nothing.
use mathlib.Core.Path.{◌≡◌, refl, sym, ap, ◌∙◌}
use mathlib.Core.Bool.{Bool, true, false, not, cond}
use mathlib.Core.List.{List, [], ◌∷◌, ◌++◌, map}
use Prim.Native.Nat.{ℕ, ◌+◌, ◌-◌, ◌≤◌, ◌<◌, zero, suc}
use native.Mathlib.Decide.{dec_le}
use native.Mathlib.Nat.{lt_of_not-le}
use native.Mathlib.Omega.{arith}
use lib.Dec.{ltb, eqb}
use lib.ListN.{length, take, drop, replicate, length-map, length-append}
use lib.Seq.{take_all, drop-nil}
use Rattle.std.proofs.lemmas.List.{append-nil, take-append-le, take_rest, take-map}
use borrow.Author.Tests.{eq-eqb, ne_eqb, eqb-true, lt-ltb, le-ltb}
use Rattle.job_records.specs.declared.records.Range.{Range}
use Rattle.job_records.specs.declared.records.Record.{Record}
use Rattle.job_records.specs.declared.records.Record.TheVariants.{Area}
use Rattle.job_records.specs.declared.records.Head.{Head}
use Rattle.std.specs.Prelude.{Option, Some, None, min}
use Rattle.job_records.proofs.MarkLaws.{some_place}
use Rattle.job_records.specs.Records.{AR, mark_before, step, rank, is_end, goes_on, records, marked}
use Rattle.job_records.specs.Areas.{ranges_in, nowhere, held_ranges, pushed}
use Rattle.job_records.specs.declared.records.JobAreas.{JobAreas}
use Rattle.planner_rules.proofs.AreaLists.{held_are, held_more}
use Rattle.job_walk.specs.Areas.{range_from, areas_held, areas_from}
use Rattle.job_walk.specs.declared.sorted.SortedJob.{SortedJob}
use Rattle.job_records.specs.Marks.{place}
use Rattle.job_walk.specs.Walk.{before, first_of, in_place, Sorted}
use Rattle.job_walk.proofs.Arms.{only_area}
use Rattle.job_records.proofs.RecordLaws.{records_more, records_stop, step_used, length_part}

-- ---- marks that never fall

pub sorted_less : (i j : ℕ) (rs : List Record) → i ≤ j → Sorted j rs → Sorted i rs
sorted_less i j [] h w = tt
sorted_less i j (r ∷ rs) h w = (omega (arith, w.0), w.1)

-- no mark stands before the first place
pub sorted_first : (rs : List Record) → Sorted 0 rs → Sorted 1 rs
sorted_first [] w = tt
sorted_first (r ∷ rs) w = (omega (arith, some_place (mark_before r)), w.1)

pub sorted_above : (k j : ℕ) (rs : List Record) → k < j → Sorted j rs → marked k rs ≡ []
unfolding marked
sorted_above k j [] h w = refl
sorted_above k j (r ∷ rs) h w =
    rw (ne_eqb (rank r) k (λ q. omega (arith, w.0))) (sorted_above k (rank r) rs (omega (arith, w.0)) w.1)

-- then all records with a mark are in place
is_in_place : (j k : ℕ) (rs : List Record) → Sorted j rs → in_place k rs ≡ marked k rs
unfolding in_place marked
is_in_place j k [] w = refl
is_in_place j k (r ∷ rs) w =
    elim (dec_le (rank r) k) [
      | yes h ↦ rw (le-ltb k (rank r) h) (ap (λ (l : List Record). cond (eqb (rank r) k) (r ∷ l) l) (is_in_place (rank r) k rs w.1))
      | no h ↦
          rw (lt-ltb k (rank r) (lt_of_not-le h))
          (sym (sorted_above k (rank r) (r ∷ rs) (lt_of_not-le h) (omega arith, w.1)))
    ]

pub marked_in_place : (k : ℕ) (job : SortedJob) → in_place k (records job.bytes.now) ≡ marked k (records job.bytes.now)
marked_in_place k job = is_in_place (place job.first) k (records job.bytes.now) job.sorted

-- ---- the next record

-- what the next record tells of a step
stops : (f : Option Head) → before f ≡ None → goes_on f ≡ false
unfolding before goes_on
stops None k = refl
stops (Some h) k = go (is_end h.found) k
  where
    go : (b : Bool) → cond b None (Some h) ≡ None → not b ≡ false
    go true k = refl
    go false k = absurd (cc)

goes : (f : Option Head) (h : Head) → before f ≡ Some h → (f ≡ Some h) × (is_end h.found ≡ false)
unfolding before
goes None h k = absurd (cc)
goes (Some g) h k = go (is_end g.found) refl k
  where
    go : (b : Bool) → is_end g.found ≡ b → cond b None (Some g) ≡ Some h → (Some g ≡ Some h) × (is_end h.found ≡ false)
    go true i k = absurd (cc)
    go false i k =
        let j : g ≡ h = cc in
        (k, ap (λ (x : Head). is_end x.found) (sym j) ∙ i)

-- a record that was read has n bytes of s
pub record Used (s : List ℕ) (n : ℕ) : Type 0 where
  pub some : 1 ≤ n
  pub within : n ≤ length s
  pub less : length (take (length s - n) (drop n s)) < length s

-- a turn of a loop over s: f is what comes next
module _ (s : List ℕ) {f : Option Head} (e : f ≡ before (step s)) where
  pub walk_end : f ≡ None → records s ≡ []
  walk_end k = records_stop s (stops (step s) (sym e ∙ k))

  module _ {h : Head} (k : f ≡ Some h) where
    pub walk_used : Used s h.bytes
    walk_used =
        let u = step_used s (step s) h refl (goes (step s) h (sym e ∙ k)).0 in
        record { some = u.0; within = u.1; less = omega (arith, length_part h.bytes s, u.0, u.1) }

    pub walk_on : records s ≡ h.found ∷ records (take (length s - h.bytes) (drop h.bytes s))
    walk_on =
        let g = goes (step s) h (sym e ∙ k) in
        rw (take_rest s h.bytes) (records_more s h g.0 walk_used.some walk_used.within g.1)

    pub walk_yes : (j : ℕ) → rank h.found ≡ j → marked j (records s) ≡ h.found ∷ marked j (records (take (length s - h.bytes) (drop h.bytes s)))
    unfolding marked
    walk_yes j i = rw (walk_on, eq-eqb (rank h.found) j i)

    pub walk_no : (j : ℕ) → (rank h.found ≡ j → ⊥) → marked j (records s) ≡ marked j (records (take (length s - h.bytes) (drop h.bytes s)))
    unfolding marked
    walk_no j i = rw (walk_on, ne_eqb (rank h.found) j i)

    pub walk_sorted : (j : ℕ) → Sorted j (records s)
        → (j ≤ rank h.found) × Sorted (rank h.found) (records (take (length s - h.bytes) (drop h.bytes s)))
    walk_sorted j w = rw walk_on at w

-- ---- the loop that looks for a record

-- the first record with the mark k
abbrev pub looked : ℕ → List ℕ → Option Record
looked k s = first_of (in_place k (records s))

first_after : (n : ℕ) → (n ≡ 0 → ⊥) → (r : Record) (rs : List Record) → first_of (drop (n - 1) rs) ≡ first_of (drop n (r ∷ rs))
first_after zero z r rs = absurd (z refl)
first_after (suc n) z r rs = let j : suc n - 1 ≡ n = omega arith in ap (λ (i : ℕ). first_of (drop i rs)) j

-- r is the next of some records, and x its rank, where n of them are to be passed over: none comes, or it is the one, or the look goes on after it
pub record Seen (k n : ℕ) (r : Record) (rs : List Record) (x : ℕ) : Type 0 where
  pub past : k < x → None ≡ first_of (drop n (in_place k (r ∷ rs)))
  pub here : x ≡ k → n ≡ 0 → Some r ≡ first_of (drop n (in_place k (r ∷ rs)))
  pub after : x ≡ k → (n ≡ 0 → ⊥) → first_of (drop (n - 1) (in_place k rs)) ≡ first_of (drop n (in_place k (r ∷ rs)))
  pub on : x ≤ k → (x ≡ k → ⊥) → first_of (drop n (in_place k rs)) ≡ first_of (drop n (in_place k (r ∷ rs)))

pub look_next : (k n : ℕ) (r : Record) (rs : List Record) {x : ℕ} → x ≡ rank r → Seen k n r rs x
unfolding in_place
look_next k n r rs i = record {
  past = λ l. rw (lt-ltb k (rank r) (omega arith), drop-nil n);
  here = λ l z. rw (le-ltb k (rank r) (omega arith), eq-eqb (rank r) k (sym i ∙ l), z);
  after = λ l z. rw (le-ltb k (rank r) (omega arith), eq-eqb (rank r) k (sym i ∙ l)) (first_after n z r (in_place k rs));
  on = λ l q. rw (le-ltb k (rank r) (omega arith), ne_eqb (rank r) k (λ u. q (i ∙ u)));
}

-- no record is left
pub look_end : (k n : ℕ) → None ≡ first_of (drop n (in_place k []))
unfolding in_place
look_end k n = rw (drop-nil n)

-- ---- the record that was found

looked_rank : (k : ℕ) (rs : List Record) (r : Record) → first_of (in_place k rs) ≡ Some r → rank r ≡ k
unfolding in_place
looked_rank k [] r h = absurd (cc)
looked_rank k (q ∷ qs) r h = go (ltb k (rank q)) (eqb (rank q) k) refl h (looked_rank k qs r)
  where
    go : (a b : Bool) → eqb (rank q) k ≡ b → first_of (cond a [] (cond b (q ∷ in_place k qs) (in_place k qs))) ≡ Some r
        → (first_of (in_place k qs) ≡ Some r → rank r ≡ k) → rank r ≡ k
    go true b i h later = absurd (cc)
    go false true i h later = let j : q ≡ r = cc in ap rank (sym j) ∙ eqb-true (rank q) k i
    go false false i h later = later h

-- f is the first of the records l, which have the mark k, or that there is none
pub record Looked (k : ℕ) (l : List Record) (f : Option Record) : Type 0 where
  pub is : f ≡ first_of l
  pub ranked : (r : Record) → f ≡ Some r → rank r ≡ k

pub looked_in_place : (k : ℕ) (s : List ℕ) {f : Option Record} → f ≡ looked k s → Looked k (in_place k (records s)) f
looked_in_place k s e = record { is = e; ranked = λ r h. looked_rank k (records s) r (sym e ∙ h) }

pub looked_marked : (k : ℕ) (job : SortedJob) {f : Option Record} → f ≡ looked k job.bytes.now → Looked k (marked k (records job.bytes.now)) f
looked_marked k job e = record { is = e ∙ ap first_of (marked_in_place k job); ranked = (looked_in_place k job.bytes.now e).ranked }

module _ {k : ℕ} {l : List Record} {f : Option Record} (w : Looked k l f) where
  -- what is made of the records, where there is none and where there is one
  pub from_none : {X : Type 0} (g : List Record → X) {v : X} → f ≡ None → g [] ≡ v → v ≡ g l
  from_none {X} g {v} h p = go l (sym w.is ∙ h)
    where
      go : (l : List Record) → first_of l ≡ None → v ≡ g l
      go [] h = sym p
      go (r ∷ l) h = absurd (cc)

  pub from_one : {X : Type 0} (g : List Record → X) {v : X} {r q : Record} → f ≡ Some r → r ≡ q → ((t : List Record) → g (q ∷ t) ≡ v) → v ≡ g l
  from_one {X} g {v} {r} {q} h i p = go l (sym w.is ∙ h)
    where
      go : (l : List Record) → first_of l ≡ Some r → v ≡ g l
      go [] h = absurd (cc)
      go (o ∷ t) h = let j : o ≡ q = cc in sym (ap (λ (y : Record). g (y ∷ t)) j ∙ p t)

-- ---- the loop that collects the areas

-- the areas of some records
abbrev pub ranges_left : List Record → List Range
ranges_left rs = map range_from (in_place AR rs)

pub area_past : (r : Record) (rs : List Record) → AR < rank r → ranges_left (r ∷ rs) ≡ []
unfolding in_place
area_past r rs l = rw (lt-ltb AR (rank r) l)

pub area_here : (r : Record) (rs : List Record) (a : Range) → r ≡ Area a → ranges_left (r ∷ rs) ≡ a ∷ ranges_left rs
unfolding in_place
area_here r rs a i = rw i

pub area_on : (r : Record) (rs : List Record) → rank r ≤ AR → ((a : Range) → r ≡ Area a → ⊥) → ranges_left rs ≡ ranges_left (r ∷ rs)
unfolding in_place
area_on r rs l q = rw (le-ltb AR (rank r) l, ne_eqb (rank r) AR (λ i. only_area r i q))

-- one more than were collected
pub one_more : (a b : JobAreas) (x : Range) → a.count < 8 → a ≡ held_ranges (ranges_in a) → b ≡ pushed a x
    → (b ≡ held_ranges (ranges_in b)) × (ranges_in b ≡ ranges_in a ++ x ∷ [])
one_more a b x h e p =
    let xs = ranges_in a in
    let long : length xs < 8 = omega (arith, ap (λ (z : JobAreas). z.count) e) in
    let count : length xs + 1 ≡ length (xs ++ x ∷ []) = omega (arith, length-append xs (x ∷ [])) in
    let ranges = held_more nowhere xs x in
    let next : pushed (held_ranges xs) x ≡ held_ranges (xs ++ x ∷ []) = λ i. record { count = count i; ranges = ranges i } in
    let more : b ≡ held_ranges (xs ++ x ∷ []) = p ∙ ap (λ (z : JobAreas). pushed z x) e ∙ next in
    let is : ranges_in b ≡ xs ++ x ∷ [] = ap ranges_in more ∙ held_are nowhere (xs ++ x ∷ []) (omega (arith, count)) in
    (more ∙ ap held_ranges (sym is), is)

-- so many were collected
pub collected_count : (a : JobAreas) → a ≡ held_ranges (ranges_in a) → length (ranges_in a) ≡ a.count
collected_count a e = sym (ap (λ (z : JobAreas). z.count) e)

-- those that were collected are the first so many, where no more are left or they are so many
pub collected : (n : ℕ) (xs left all : List Range) → xs ++ left ≡ all → length xs ≤ n → left ≡ [] → xs ≡ take n all
collected n xs left all e h l =
    let whole : xs ≡ all = sym (append-nil xs) ∙ ap (λ (ys : List Range). xs ++ ys) (sym l) ∙ e in
    sym (take_all n xs h) ∙ ap (take n) whole

pub collected_most : (n : ℕ) (xs left all : List Range) → xs ++ left ≡ all → length xs ≡ n → xs ≡ take n all
collected_most n xs left all e h = sym (take_all n xs (omega arith)) ∙ sym (take-append-le n xs left (omega arith)) ∙ ap (take n) e

-- what is held of the first eight is what is held of more of them
first_held : (n c : ℕ) (xs ys : List Range) → n ≤ c → take n (take n xs ++ ys) ≡ take n (take c xs ++ ys)
first_held zero c xs ys h = refl
first_held (suc n) zero xs ys h = absurd (omega arith)
first_held (suc n) (suc c) [] ys h = refl
first_held (suc n) (suc c) (x ∷ xs) ys h = ap (λ (zs : List Range). x ∷ zs) (first_held n c xs ys (omega arith))

-- those that a count says
pub held_counted : (c : ℕ) (rs : List Record)
    → (held_ranges (take (min c 8) (map range_from rs))).ranges ≡ (areas_held c (take c rs)).ranges
held_counted c rs =
    let xs = map range_from rs in
    let blank = replicate 8 nowhere in
    let held = λ (ys : List Range). take 8 (ys ++ blank) in
    let is : held (take (min c 8) xs) ≡ held (take c xs) = by (dec_le c 8) in
    is ∙ ap held (take-map range_from c rs)
  where
    by : Dec (c ≤ 8) → take 8 (take (min c 8) (map range_from rs) ++ replicate 8 nowhere) ≡ take 8 (take c (map range_from rs) ++ replicate 8 nowhere)
    by (yes h) = let e : min c 8 ≡ c = omega (arith, h) in rw e refl
    by (no h) =
        let most : 8 ≤ c = omega (arith, lt_of_not-le h) in
        let e : min c 8 ≡ 8 = omega (arith, most) in
        rw e (first_held 8 c (map range_from rs) (replicate 8 nowhere) most)

-- in order, and no more than eight, they are the areas of the job
module _ (job : SortedJob) (few : length (marked AR (records job.bytes.now)) ≤ 8) where
  abbrev all : List Record
  all = marked AR (records job.bytes.now)

  first_eight : take 8 (map range_from (in_place AR (records job.bytes.now))) ≡ map range_from all
  first_eight =
      ap (λ (xs : List Record). take 8 (map range_from xs)) (marked_in_place AR job)
      ∙ take_all 8 (map range_from all) (omega (arith, length-map all range_from))

  pub all_areas : (a : JobAreas) → a ≡ held_ranges (take 8 (map range_from (in_place AR (records job.bytes.now)))) → a ≡ areas_from all
  all_areas a e = e ∙ ap held_ranges first_eight
