-- The code's tables of paper sizes are the definition's list of sheets, in units: one test, computed over the whole table. Assumes nothing.
use Rattle.std.specs.Prelude.{Option, None, Some, ◌==◌}
use Rattle.std.specs.List.{find}
use Rattle.std.proofs.Common.{◌≡◌, ℕ, Bool, true, false, cond, ◌&&◌, T, eqb, List, [], ◌∷◌, ℤ, pos, negsuc, refl, ap, subst, sym, ◌∙◌}
use Rattle.std.proofs.Common.{eqb→eq, eqb-true, eq-eqb, ne_eqb}
use borrow.Author.Tests.{eqb-false}
use lib.Ieee.{mul, div, round, of_int}
use lib.Ieee.Fits.{and_l, and_r}
use Rattle.units.specs.Outcome.{Outcome, given, refused}
use Rattle.units.specs.Units.{inches_to_fixed}
use Rattle.geometry.specs.Paper.{Sheet, PaperFound, letter, sheets, resolved, upright}

abbrev pub table : List (ℕ × ℕ × ℕ)
table =
    (1, 835584, 1081344) ∷ (2, 835584, 1081344) ∷ (3, 1081344, 1671168) ∷ (4, 1671168, 1081344) ∷ (5, 835584, 1376256) ∷
    (6, 540672, 835584) ∷ (7, 712704, 1032192) ∷ (8, 1149460, 1625499) ∷ (9, 812750, 1149460) ∷ (10, 812750, 1149460) ∷
    (11, 572795, 812750) ∷ (12, 967559, 1366193) ∷ (13, 681162, 967559) ∷ (14, 835584, 1277952) ∷ (15, 832101, 1064315) ∷
    (16, 983040, 1376256) ∷ (17, 1081344, 1671168) ∷ (18, 835584, 1081344) ∷ (19, 380928, 872448) ∷ (20, 405504, 933888) ∷
    (21, 442368, 1019904) ∷ (22, 466944, 1081344) ∷ (23, 491520, 1130496) ∷ (24, 1671168, 2162688) ∷ (25, 2162688, 3342336) ∷
    (26, 3342336, 4325376) ∷ (27, 425726, 851452) ∷ (28, 626978, 886284) ∷ (29, 1253957, 1772568) ∷ (30, 886284, 1253957) ∷
    (31, 441207, 626978) ∷ (42, 967559, 1366193) ∷ (43, 387024, 572795) ∷ (66, 1625499, 2298920) ∷ (70, 406375, 572795) ∷ []

abbrev pub found : ℕ → ℕ → ℕ → ℕ → PaperFound
found n w h u = record { code = n; width = pos w; height = pos h; unknown = u }

-- ---- whether an outcome is that paper
is_pos : ℤ → ℕ → Bool
is_pos (pos m) n = eqb m n
is_pos (negsuc m) n = false

is_found : Outcome PaperFound → ℕ → ℕ → ℕ → ℕ → Bool
is_found (given p) n w h u = eqb p.code n && is_pos p.width w && is_pos p.height h && eqb p.unknown u
is_found (refused k) n w h u = false

pos_is : (z : ℤ) (n : ℕ) → T (is_pos z n) → z ≡ pos n
unfolding is_pos
pos_is (pos m) n t = ap pos (eqb→eq m n t)
pos_is (negsuc m) n t = absurd t

found_is : (o : Outcome PaperFound) (n w h u : ℕ) → T (is_found o n w h u) → o ≡ given (found n w h u)
unfolding is_found
found_is (given p) n w h u t =
    let a = eqb p.code n in
    let b = is_pos p.width w in
    let c = is_pos p.height h in
    let d = eqb p.unknown u in
    let abc = and_l (a && b && c) d t in
    let ab = and_l (a && b) c abc in
    let e1 = eqb→eq p.code n (and_l a b ab) in
    let e2 = pos_is p.width w (and_r a b ab) in
    let e3 = pos_is p.height h (and_r (a && b) c abc) in
    let e4 = eqb→eq p.unknown u (and_r (a && b && c) d t) in
    ap given (λ i. record { code = e1 i; width = e2 i; height = e3 i; unknown = e4 i })
found_is (refused k) n w h u t = absurd t

-- ---- the table, row by row

-- the sides that such rows have of a code
abbrev pub row_of : ℕ → List (ℕ × ℕ × ℕ) → Option (ℕ × ℕ)
row_of n [] = None
row_of n (r ∷ rest) = cond (eqb n r.0) (Some (r.1, r.2)) (row_of n rest)

-- the paper of a code with these sides; Letter, with a note, where there are none
abbrev pub paper_of : ℕ → Option (ℕ × ℕ) → Outcome PaperFound
paper_of n None = given (found 1 835584 1081344 1)
paper_of n (Some s) = given (found n s.0 s.1 0)

abbrev pub looked : ℕ → List (ℕ × ℕ × ℕ) → Outcome PaperFound
looked n rows = paper_of n (row_of n rows)

agree : List (ℕ × ℕ × ℕ) → List Sheet → Bool
agree [] [] = true
agree [] (s ∷ ss) = false
agree (r ∷ rs) [] = false
agree ((c, w, h) ∷ rs) (s ∷ ss) = eqb c s.code && is_found (upright (s, 0)) c w h 0 && agree rs ss

letter_is : given (found 1 835584 1081344 1) ≡ upright (letter, 1)
unfolding letter inches_to_fixed mul div round of_int
letter_is = refl

looked_is : (n : ℕ) (rs : List (ℕ × ℕ × ℕ)) (ss : List Sheet) → T (agree rs ss) → looked n rs ≡ upright (resolved n ss)
unfolding agree resolved
looked_is n [] [] t = letter_is
looked_is n [] (s ∷ ss) t = absurd t
looked_is n (r ∷ rs) [] t = absurd t
looked_is n ((c, w, h) ∷ rs) (s ∷ ss) t =
    let p = eqb c s.code in
    let q = is_found (upright (s, 0)) c w h 0 in
    let e : c ≡ s.code = eqb→eq c s.code (and_l p q (and_l (p && q) (agree rs ss) t)) in
    let f : upright (s, 0) ≡ given (found c w h 0) = found_is (upright (s, 0)) c w h 0 (and_r p q (and_l (p && q) (agree rs ss) t)) in
    subst (λ (k : ℕ). looked n ((c, w, h) ∷ rs) ≡ upright (cond (eqb n k) (s, 0) (resolved n ss))) e
    (by (eqb n c) refl f (looked_is n rs ss (and_r (p && q) (agree rs ss) t)))
  where
    by : (b : Bool) → eqb n c ≡ b → upright (s, 0) ≡ given (found c w h 0) → looked n rs ≡ upright (resolved n ss)
        → paper_of n (cond b (Some (w, h)) (row_of n rs)) ≡ upright (cond b (s, 0) (resolved n ss))
    by true e f i = ap (λ (k : ℕ). given (found k w h 0)) (eqb-true n c e) ∙ sym f
    by false e f i = i

-- the code's table is the definition's list
pub table_is : (n : ℕ) → looked n table ≡ upright (resolved n sheets)
unfolding agree is_found is_pos sheets letter inches_to_fixed mul div round of_int
table_is n = looked_is n table sheets tt

-- a code of the table has its sides
pub listed : (n w h : ℕ) → row_of n table ≡ Some (w, h) → upright (resolved n sheets) ≡ given (found n w h 0)
listed n w h e = sym (table_is n) ∙ ap (paper_of n) e

-- any other resolves to Letter, with a note
pub unlisted : (n : ℕ) → row_of n table ≡ None → upright (resolved n sheets) ≡ given (found 1 835584 1081344 1)
unlisted n e = sym (table_is n) ∙ ap (paper_of n) e

-- ---- the table, as `find` goes over it

-- the paper of a row; Letter, with a note, where there is none
abbrev pub paper_by : Option (ℕ × ℕ × ℕ) → Outcome PaperFound
paper_by None = given (found 1 835584 1081344 1)
paper_by (Some r) = given (found r.0 r.1 r.2 0)

pub found_by : (n : ℕ) (l : List (ℕ × ℕ × ℕ)) → paper_by (find (λ r. r.0 == n) l) ≡ looked n l
found_by n [] = refl
found_by n (r ∷ rest) = by (eqb r.0 n) refl (found_by n rest)
  where
    by : (b : Bool) → eqb r.0 n ≡ b → paper_by (find (λ k. k.0 == n) rest) ≡ looked n rest
        → paper_by (cond (r.0 == n) (Some r) (find (λ k. k.0 == n) rest)) ≡ paper_of n (cond (eqb n r.0) (Some (r.1, r.2)) (row_of n rest))
    by true t i =
        let e = eqb-true r.0 n t in
        rw (eq-eqb r.0 n e, eq-eqb n r.0 (sym e)) (ap (λ (k : ℕ). given (found k r.1 r.2 0)) e)
    by false t i =
        let e = eqb-false r.0 n t in
        rw (ne_eqb r.0 n e, ne_eqb n r.0 (λ k. e (sym k))) i
