-- Laws for the call that reads a job into lent lists. Assumes nothing.
use mathlib.Core.Path.{◌≡◌, refl, sym, ap, ap₂, ◌∙◌}
use mathlib.Core.Bool.{Bool, true, false, cond}
use mathlib.Core.List.{List, [], ◌∷◌, ◌++◌, map, append-nil}
use Prim.Native.Nat.{ℕ, ◌≤◌}
use native.Mathlib.Omega.{arith}
use lib.Dec.{leb}
use borrow.Author.Tests.{leb-true}
use lib.ListN.{length}
use Rattle.units.specs.Outcome.{given, refused}
use Rattle.planner_rules.specs.Slots.{written}
use Rattle.job_records.specs.declared.records.Record.{Record}
use Rattle.job_questions.specs.declared.Items.{Items}
use Rattle.units.specs.declared.refusal.Refusal.{Refusal}
use Rattle.units.specs.Refusals.{number_of, outcome}
use Rattle.std.specs.Prelude.{Result, Ok, Err}
use Rattle.job_reader.specs.declared.lists.Job.{Job}
use Rattle.job_settings.specs.declared.JobSettings.{JobSettings}
use Rattle.job_records.specs.Records.{AR, field, records, marked, values}
use Rattle.job_questions.specs.Verdict.{ordered, questions, in_order, items_of, verdict_lent}
use Rattle.job_reader.specs.Settings.{settings_of}
use Rattle.job_walk.specs.Walk.{Sorted}
use Rattle.job_reader.specs.Walk.{Kept}
use Rattle.job_reader.specs.Reading.{Lists, even_lists, room_in, fit_in, asked, admitted, admitted_to, job_of, read_job, JobRead, Room, AllWritten}
use Rattle.planner_rules.specs.Areas.{one_to_eight}
use Rattle.job_questions.proofs.PassLaws.{All, sorted_of}
use Rattle.std.proofs.lemmas.Bool.{and_parts}

-- ---- questions in order, whatever is given at the end

module _ {A B : Type 0} (v : A) (w : B) where
  pub in_order_given : (qs : List (ℕ × Bool)) (x : A) → given x ≡ in_order qs v → (x ≡ v) × (given w ≡ in_order qs w)
  in_order_given [] x e = (cc, refl)
  in_order_given ((n, true) ∷ qs) x e = in_order_given qs x e
  in_order_given ((n, false) ∷ qs) x e = absurd cc

  -- a no among some questions is the first among more
  in_order_more : (more : List (ℕ × Bool)) (x : ℕ) (qs : List (ℕ × Bool)) → refused x ≡ in_order qs v → refused x ≡ in_order (qs ++ more) w
  in_order_more more x [] e = absurd cc
  in_order_more more x ((n, true) ∷ qs) e = in_order_more more x qs e
  in_order_more more x ((n, false) ∷ qs) e = let i : x ≡ n = cc in ap refused i

  pub in_order_refused : (qs : List (ℕ × Bool)) (x : ℕ) → refused x ≡ in_order qs v → refused x ≡ in_order qs w
  in_order_refused qs x e = rw (append-nil qs) at (in_order_more [] x qs e)

pub all_given : {A : Type 0} (v : A) (qs : List (ℕ × Bool)) (x : A) → given x ≡ in_order qs v → All qs
all_given v [] x e = tt
all_given v ((n, true) ∷ qs) x e = (refl, all_given v qs x e)
all_given v ((n, false) ∷ qs) x e = absurd cc

-- where some are answered yes, the others decide
pub all_past : {A : Type 0} (v : A) (more qs : List (ℕ × Bool)) → All qs → in_order more v ≡ in_order (qs ++ more) v
all_past v more [] a = refl
all_past v more ((n, q) ∷ qs) a = rw a.0 (all_past v more qs a.1)

-- ---- question 11, after the others

-- a no before it is the answer
pub admit_refused : (even : Bool) (s : List ℕ) (room : Items) (n : ℕ) → refused n ≡ verdict_lent even s → refused n ≡ admitted even room s
unfolding verdict_lent admitted
admit_refused even s room n e =
    in_order_more (items_of (records s)) (items_of (records s)) ((11, fit_in (items_of (records s)) room) ∷ []) n (questions even s) e

module _ (even : Bool) (s : List ℕ) (room : Items) (f : Result Items Refusal) (e : outcome f ≡ verdict_lent even s) where
  pub admit_no : (x : Refusal) → f ≡ Err x → refused (number_of x) ≡ admitted even room s
  admit_no x k = admit_refused even s room (number_of x) (sym (ap outcome k) ∙ e)

  module _ (items : Items) (k : f ≡ Ok items) where
    is_questioned : given items ≡ in_order (questions even s) (items_of (records s))
    unfolding verdict_lent
    is_questioned = sym (ap outcome k) ∙ e

    counted : items ≡ items_of (records s)
    counted = (in_order_given (items_of (records s)) (items_of (records s)) (questions even s) items is_questioned).0

    past_nine : in_order ((11, fit_in (items_of (records s)) room) ∷ []) (items_of (records s)) ≡ admitted even room s
    unfolding admitted
    past_nine =
        all_past (items_of (records s)) ((11, fit_in (items_of (records s)) room) ∷ []) (questions even s)
        (all_given (items_of (records s)) (questions even s) items is_questioned)

    pub admit_fits : (b : Bool) → b ≡ fit_in items room → cond b (given items) (refused 11) ≡ admitted even room s
    admit_fits b i =
        ap (λ (q : Bool). cond q (given items) (refused 11)) i ∙ ap (λ (c : Items). in_order ((11, fit_in c room) ∷ []) c) counted ∙ past_nine

-- ---- what a job that is admitted tells

read_given : (s : List ℕ) (l : Lists) → given (job_of (records s)) ≡ in_order (asked (even_lists l) (room_in l) s) (job_of (records s))
    → given (job_of (records s)) ≡ read_job s l
unfolding read_job
read_given s l h = h

pub read_refused : (s : List ℕ) (l : Lists) (n : ℕ) → refused n ≡ admitted_to s l → refused n ≡ read_job s l
unfolding admitted read_job
read_refused s l n h = in_order_refused (items_of (records s)) (job_of (records s)) (asked (even_lists l) (room_in l) s) n h

-- the job s is admitted to the lists l, and has these items
pub record Admitted (s : List ℕ) (l : Lists) (items : Items) : Type 0 where
  pub is : given items ≡ in_order (asked (even_lists l) (room_in l) s) (items_of (records s))

pub admitted_is : {s : List ℕ} {l : Lists} {items : Items} {f : Result Items Refusal} → outcome f ≡ admitted_to s l → f ≡ Ok items → Admitted s l items
unfolding admitted
admitted_is e k = record { is = sym (ap outcome k) ∙ e }

module _ {s : List ℕ} {l : Lists} {items : Items} (w : Admitted s l items) where
  all : All (asked (even_lists l) (room_in l) s)
  all = all_given (items_of (records s)) (asked (even_lists l) (room_in l) s) items w.is

  pub given_sorted : Sorted 0 (records s)
  given_sorted = sorted_of 0 (records s) (and_parts (ordered 0 (records s)) (one_to_eight (length (marked AR (records s)))) all.1.1.1.0).0

  pub given_areas : length (marked AR (records s)) ≤ 8
  given_areas =
      let n = length (marked AR (records s)) in
      leb-true n 8 (and_parts (leb 1 n) (leb n 8) (and_parts (ordered 0 (records s)) (one_to_eight n) all.1.1.1.0).1).1

  pub given_room : Room s l
  given_room = record { even = (and_parts (even_lists l) _ all.1.1.1.1.1.0).0; fits = all.1.1.1.1.1.1.1.1.1.1.0 }

  -- the job that was read
  pub job_given : {after : Lists} {set : JobSettings} → set ≡ settings_of (records s) → AllWritten s l after → JobRead s
      (Ok (record { settings = set; items = items })) l after
  job_given i v =
      let g = in_order_given (items_of (records s)) (job_of (records s)) (asked (even_lists l) (room_in l) s) items w.is in
      let q : given (job_of (records s)) ≡ read_job s l = read_given s l g.1 in
      record {
        answer = ap₂ (λ (x : JobSettings) (y : Items). given (record { settings = x; items = y })) i g.0 ∙ q;
        row_indexes_are = rw (← q) v.row_indexes_are;
        row_sizes_are = rw (← q) v.row_sizes_are;
        column_indexes_are = rw (← q) v.column_indexes_are;
        column_sizes_are = rw (← q) v.column_sizes_are;
        merge_first_rows_are = rw (← q) v.merge_first_rows_are;
        merge_first_columns_are = rw (← q) v.merge_first_columns_are;
        merge_last_rows_are = rw (← q) v.merge_last_rows_are;
        merge_last_columns_are = rw (← q) v.merge_last_columns_are;
        row_breaks_are = rw (← q) v.row_breaks_are;
        column_breaks_are = rw (← q) v.column_breaks_are;
      }

-- a job that is refused
pub job_refused : {s : List ℕ} {l : Lists} {f : Result Items Refusal} {x : Refusal} {r : Result Job Refusal}
    → outcome f ≡ admitted_to s l → f ≡ Err x → outcome r ≡ refused (number_of x) → JobRead s r l l
job_refused {s} {l} {f} {x} {r} e k h =
    let q : refused (number_of x) ≡ read_job s l = read_refused s l (number_of x) (sym (ap outcome k) ∙ e) in
    record {
      answer = h ∙ q;
      row_indexes_are = rw (← q);
      row_sizes_are = rw (← q);
      column_indexes_are = rw (← q);
      column_sizes_are = rw (← q);
      merge_first_rows_are = rw (← q);
      merge_first_columns_are = rw (← q);
      merge_last_rows_are = rw (← q);
      merge_last_columns_are = rw (← q);
      row_breaks_are = rw (← q);
      column_breaks_are = rw (← q);
    }

-- ---- the part of a job that is left

pub kept_on : {k m : ℕ} {b s t : List ℕ} → Kept k b s → Kept m s t → k ≤ m → Kept m b t
kept_on w v h = record { same = λ j i. v.same j i ∙ w.same j (omega arith) }

pub values_from : {k j : ℕ} {b s : List ℕ} → Kept k b s → j ≡ k → (f : ℕ) (old : List ℕ) {new : List ℕ} → new ≡ written (values j f (records s)) old
    → new ≡ written (values k f (records b)) old
values_from {k} {j} {b} {s} w i f old e =
    e ∙ ap (λ (l : List Record). written (map (field f) l) old) (ap (λ (m : ℕ). marked m (records s)) i ∙ w.same k (omega arith))
