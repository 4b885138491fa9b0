-- A loop that writes a lent list from its front, and runs in it, one after another. Assumes nothing.
use mathlib.Core.Path.{◌≡◌, refl, sym, ap, ◌∙◌}
use mathlib.Core.List.{List, [], ◌∷◌, ◌++◌, map, append-nil, append_assoc, map-map}
use Prim.Native.Nat.{ℕ, zero, suc, ◌+◌, ◌*◌, ◌-◌, ◌≤◌, ◌<◌}
use native.Mathlib.Numerals.{add-one}
use native.Mathlib.Omega.{arith}
use lib.ListN.{length, get_or, take, drop, set, length-set, take-append-drop, length-append, length-drop, drop_of_length-le}
use lib.Seq.{take-suc-set, drop-set-lt, append_snoc, drop-drop, get_or-drop, length-take-le, take_at, drop_at}
use borrow.Rule.Slice.PartMut.{put_mid}
use Rattle.planner_rules.proofs.Laws.{part}
use Rattle.planner_rules.specs.Slots.{written}
use Rattle.planner_rules.specs.Runs.{Run}
use Rattle.planner_rules.specs.Lent.{run_numbers, numbers_of, flat, room_in, number_at, first_run, runs_in, firsts, lasts, sizes, Room, RoomAt, Written}
use Rattle.planner_rules.specs.Lent.{WrittenAt}
use Rattle.std.proofs.lemmas.List.{take_rest}

-- `new` is `old` with the first k values of `whole` written to its front; `left` are the values to come
pub record Wrote (whole old : List ℕ) (k : ℕ) (left new : List ℕ) : Type 0 where
  pub so_far : take k new ++ left ≡ whole
  pub after : drop k new ≡ drop k old
  pub long : length new ≡ length old

pub start : (whole old : List ℕ) → Wrote whole old 0 whole old
start whole old = record { so_far = refl; after = refl; long = refl }

pub store : (whole old : List ℕ) (k v : ℕ) (left new : List ℕ) → k < length new → Wrote whole old k (v ∷ left) new
    → Wrote whole old (k + 1) left (set new k v)
store whole old k v left new h w = record {
  so_far = rw (add-one, take-suc-set new k v) (append_snoc (take k new) v left ∙ w.so_far);
  after =
      rw (add-one, drop-set-lt (suc k) new k v (omega arith))
      (rw (← (add-one k)) (sym (drop-drop 1 k new) ∙ ap (drop 1) w.after ∙ drop-drop 1 k old));
  long = length-set new k v ∙ w.long;
}

pub done : (whole old : List ℕ) (k : ℕ) (new : List ℕ) → k ≡ length whole → Wrote whole old k [] new → new ≡ written whole old
done whole old k new e w =
    sym (take-append-drop k new)
    ∙ ap (λ (l : List ℕ). l ++ drop k new) (sym (append-nil (take k new)) ∙ w.so_far)
    ∙ ap (λ (l : List ℕ). whole ++ l) (w.after ∙ ap (λ (n : ℕ). drop n old) e)

-- ---- runs as numbers

pub flat_append : (rs left : List Run) → flat (rs ++ left) ≡ flat rs ++ flat left
unfolding flat
flat_append [] left = refl
flat_append (r ∷ rs) left = ap (λ (l : List ℕ). numbers_of r ++ l) (flat_append rs left)

-- four numbers a run
pub flat-length : (rs : List Run) → length (flat rs) ≡ run_numbers * length rs
unfolding flat
flat-length [] = refl
flat-length (r ∷ rs) = omega (arith, flat-length rs)

-- so many runs have room where so many are no more than the list has room for
pub room_runs : (rs : List Run) (l : List ℕ) → length rs ≤ room_in l → Room rs l
room_runs rs l h = omega (arith, flat-length rs)

-- ---- numbers as runs

-- a run as a list has it: its slots and its expansion are not there
abbrev bare : Run → Run
bare r = record { first = r.first; last = r.last; size = r.size; slots = 0; grown = 0; manual = r.manual }

runs_bare : (rs : List Run) (more : List ℕ) → runs_in (length rs) (flat rs ++ more) ≡ map bare rs
unfolding runs_in flat
runs_bare [] more = refl
runs_bare (r ∷ rs) more = ap (λ (l : List Run). bare r ∷ l) (runs_bare rs more)

-- what stands first in a list after runs were written to its front
pub record Stands (rs : List Run) (l : List ℕ) : Type 0 where
  pub firsts_are : firsts (runs_in (length rs) l) ≡ firsts rs
  pub lasts_are : lasts (runs_in (length rs) l) ≡ lasts rs
  pub sizes_are : sizes (runs_in (length rs) l) ≡ sizes rs

pub stands : (rs : List Run) (old new : List ℕ) → new ≡ written (flat rs) old → Stands rs new
stands rs old new w =
    let e = ap (runs_in (length rs)) w ∙ runs_bare rs (drop (length (flat rs)) old) in
    record {
      firsts_are = ap firsts e ∙ map-map (λ (r : Run). r.first) bare rs;
      lasts_are = ap lasts e ∙ map-map (λ (r : Run). r.last) bare rs;
      sizes_are = ap sizes e ∙ map-map (λ (r : Run). r.size) bare rs;
    }

pub runs_length : (n : ℕ) (l : List ℕ) → length (runs_in n l) ≡ n
unfolding runs_in
runs_length zero l = refl
runs_length (suc n) l = ap suc (runs_length n (drop run_numbers l))

-- a number of a run that stands at a place among its numbers
pub field_at : (g : Run → ℕ) (at : ℕ) → ((l : List ℕ) → g (first_run l) ≡ get_or l at 0)
    → (n : ℕ) (l : List ℕ) (k : ℕ) → k < n → get_or (map g (runs_in n l)) k 0 ≡ number_at l k at
unfolding runs_in
field_at g at e zero l k h = absurd (omega arith)
field_at g at e (suc n) l zero h = e l ∙ ap (λ (i : ℕ). get_or l i 0) (omega arith)
field_at g at e (suc n) l (suc k) h =
    field_at g at e n (drop run_numbers l) k (omega arith) ∙ get_or-drop run_numbers l (run_numbers * k + at) 0
    ∙ ap (λ (i : ℕ). get_or l i 0) (omega arith)

-- ---- a loop that writes runs: `at` of the numbers are written, the runs `left` are to come
pub record Writing (whole : List Run) (old : List ℕ) (at : ℕ) (left : List Run) (new : List ℕ) : Type 0 where
  pub counted : at + length (flat left) ≡ length (flat whole)
  pub so : Wrote (flat whole) old at (flat left) new

pub writing_start : (whole : List Run) (old : List ℕ) → Writing whole old 0 whole old
writing_start whole old = record { counted = omega arith; so = start _ old }

-- all are written
pub writing_done : (whole : List Run) (old : List ℕ) (at : ℕ) (new : List ℕ) → Writing whole old at [] new → Written whole at old new
unfolding flat
writing_done whole old at new w =
    let e : at ≡ length (flat whole) = omega (arith, w.counted) in
    record { count = e; list_is = done _ old at new e w.so }

-- ---- a part `&mut old[at..]` was lent, and came back as `new`

pub put_rest : (at : ℕ) (vs old new : List ℕ) → new ≡ written vs (part at old)
    → put_mid at (length old - at) old new ≡ take at old ++ written vs (drop at old)
put_rest at vs old new e =
    let z : drop (length old - at) (drop at old) ≡ [] = drop_of_length-le (drop at old) {i = length old - at} (simp length-drop (omega arith)) in
    ap (λ (p : List ℕ). take at old ++ (p ++ drop (length old - at) (drop at old))) (e ∙ ap (written vs) (take_rest old at))
    ∙ ap (λ (p : List ℕ). take at old ++ (written vs (drop at old) ++ p)) z
    ∙ ap (λ (p : List ℕ). take at old ++ p) (append-nil (written vs (drop at old)))

-- what comes after `at` values that were written, and more of them
pub stores : (whole old : List ℕ) (at : ℕ) (vs left new new' : List ℕ) → at + length vs ≤ length new → Wrote whole old at (vs ++ left) new
    → new' ≡ take at new ++ written vs (drop at new) → Wrote whole old (at + length vs) left new'
stores whole old at vs left new new' h w e =
    let p : length (take at new) ≡ at = length-take-le at new (omega arith) in
    let q : length (take at new ++ vs) ≡ at + length vs = length-append (take at new) vs ∙ ap (λ (n : ℕ). n + length vs) p in
    let e' : new' ≡ (take at new ++ vs) ++ drop (at + length vs) new =
    e ∙ sym (append_assoc (take at new) vs (drop (length vs) (drop at new))) ∙ ap (λ (l : List ℕ). (take at new ++ vs) ++ l) (drop-drop (length vs) at new) in
    record {
      so_far =
          ap (λ (l : List ℕ). take (at + length vs) l ++ left) e'
          ∙ ap (λ (l : List ℕ). l ++ left) (take_at (take at new ++ vs) (drop (at + length vs) new) (at + length vs) q)
          ∙ append_assoc (take at new) vs left ∙ w.so_far;
      after =
          ap (drop (at + length vs)) e'
          ∙ drop_at (take at new ++ vs) (drop (at + length vs) new) (at + length vs) q
          ∙ sym (drop-drop (length vs) at new) ∙ ap (drop (length vs)) w.after ∙ drop-drop (length vs) at old;
      long =
          ap length e'
          ∙ length-append (take at new ++ vs) (drop (at + length vs) new)
          ∙ omega (arith, q, length-drop (at + length vs) new, w.long);
    }

module _ (whole : List Run) (old : List ℕ) (at : ℕ) (rs left : List Run) (new : List ℕ) where
  -- the runs of a stretch more
  pub writing_more : (n : ℕ) (new' : List ℕ) → RoomAt rs at new → WrittenAt rs at n new new' → Writing whole old at (rs ++ left) new
      → Writing whole old (at + n) left new'
  writing_more n new' room wr w =
      rw wr.count (record {
        counted = omega (arith, w.counted, ap length (flat_append rs left), length-append (flat rs) (flat left));
        so = stores (flat whole) old at (flat rs) (flat left) new new' room (rw (flat_append rs left) at w.so) wr.list_is;
      })

  -- what is left has room
  pub writing_room : Room whole old → Writing whole old at (rs ++ left) new → RoomAt rs at new
  writing_room h w = omega (arith, h, w.counted, ap length (flat_append rs left), length-append (flat rs) (flat left), w.so.long)

-- one run more, whose numbers were put
module _ (whole : List Run) (old : List ℕ) (at : ℕ) (r : Run) (left : List Run) (new new' : List ℕ) where
  pub writing_one : (a b c d : ℕ) → a ≡ r.first → b ≡ r.last → c ≡ r.size → d ≡ r.manual → at + run_numbers ≤ length new
      → new' ≡ take at new ++ written (a ∷ b ∷ c ∷ d ∷ []) (drop at new) → Writing whole old at (r ∷ left) new
      → Writing whole old (at + run_numbers) left new'
  unfolding flat
  writing_one a b c d ea eb ec ed h e w = record {
    counted = omega (arith, w.counted);
    so = stores (flat whole) old at (numbers_of r) (flat left) new new' h w.so (rw (ea, eb, ec, ed) at e);
  }

-- ---- four numbers stored, one after another

module _ (l : List ℕ) (at a b c d : ℕ) (h : at + 4 ≤ length l) where
  abbrev one : List ℕ
  one = set l at a

  abbrev two : List ℕ
  two = set one (at + 1) b

  abbrev three : List ℕ
  three = set two (at + 2) c

  pub long_one : length one ≡ length l
  long_one = length-set l at a

  pub long_two : length two ≡ length l
  long_two = length-set one (at + 1) b ∙ long_one

  pub long_three : length three ≡ length l
  long_three = length-set two (at + 2) c ∙ long_two

  pub four_stored : set three (at + 3) d ≡ take at l ++ written (a ∷ b ∷ c ∷ d ∷ []) (drop at l)
  four_stored =
      let vs : List ℕ = a ∷ b ∷ c ∷ d ∷ [] in
      let whole = take at l ++ vs in
      let w0 : Wrote whole l at vs l = record { so_far = refl; after = refl; long = refl } in
      let w1 = store whole l at a (b ∷ c ∷ d ∷ []) l (omega arith) w0 in
      let e2 : at + 1 + 1 ≡ at + 2 = omega arith in
      let w2 = rw e2 at (store whole l (at + 1) b (c ∷ d ∷ []) one (omega (arith, long_one)) w1) in
      let e3 : at + 2 + 1 ≡ at + 3 = omega arith in
      let w3 = rw e3 at (store whole l (at + 2) c (d ∷ []) two (omega (arith, long_two)) w2) in
      let e4 : at + 3 + 1 ≡ at + 4 = omega arith in
      let w4 = rw e4 at (store whole l (at + 3) d [] three (omega (arith, long_three)) w3) in
      let n : at + 4 ≡ length whole = omega (arith, length-append (take at l) vs, length-take-le at l (omega arith)) in
      done whole l (at + 4) (set three (at + 3) d) n w4
      ∙ append_assoc (take at l) vs (drop (length whole) l)
      ∙ ap (λ (t : List ℕ). take at l ++ (vs ++ t)) (ap (λ (m : ℕ). drop m l) (sym n) ∙ sym (drop-drop 4 at l))
