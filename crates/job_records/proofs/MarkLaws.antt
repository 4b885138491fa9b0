-- What a test of two marks tells of their places. Assumes nothing.
use Rattle.std.proofs.Common.{◌≡◌, ℕ, suc, true, false, refl, ap, sym, ◌∙◌, arith}
use mathlib.Core.Bool.{true≢false}
use borrow.Author.Tests.{eq-eqb, ne_eqb, lt-ltb, le-ltb}
use Rattle.std.specs.Ordering.{partial_gt, is_some_and, is_gt}
use Rattle.std.specs.declared.cmp.Ordering.{Ordering}
use Rattle.std.specs.declared.cmp.Ordering.TheVariants.{Less, Equal, Greater}
use Rattle.std.specs.Prelude.{Bool, ltb, eqb, Option, Some, List, [], ◌∷◌, ◌<◌, ◌≤◌}
use Rattle.job_records.specs.contracts.marks.MarkPartialOrd.TheImpl.{partial_cmp-value}
use mathlib.Core.Logic.{inl, inr}
use denote.Struct.Field.{Field}
use denote.Struct.Values.{Values}
use denote.Enum.Declared.{Choice, tag_of}
use denote.Enum.Compared.{Each, by}
use denote.Enum.Bare.{sameb, same_true}
use Rattle.job_records.specs.contracts.marks.Mark.{the_type, the_parts, as_values}
use Rattle.job_records.specs.declared.marks.Mark.{Mark}
use Rattle.job_records.specs.declared.marks.Mark.TheVariants as mark
use Rattle.job_records.specs.Marks.{place}

place_is : (m : Mark) → place m ≡ suc (tag_of the_type m)
place_is mark.Paper = refl
place_is mark.Landscape = refl
place_is mark.Margins = refl
place_is mark.Percent = refl
place_is mark.FitWidth = refl
place_is mark.FitHeight = refl
place_is mark.Fit = refl
place_is mark.Order = refl
place_is mark.Headings = refl
place_is mark.PageLimit = refl
place_is mark.CellLimit = refl
place_is mark.Area = refl
place_is mark.RowTitle = refl
place_is mark.ColumnTitle = refl
place_is mark.Row = refl
place_is mark.Column = refl
place_is mark.Merge = refl
place_is mark.RowBreak = refl
place_is mark.ColumnBreak = refl
place_is mark.End = refl

pub same_place : (a b : Mark) → sameb the_type a b ≡ true → place a ≡ place b
same_place a b e = ap place (same_true the_type tt a b e)

pub other_place : (a b : Mark) → sameb the_type a b ≡ false → place a ≡ place b → ⊥
other_place a b e i =
    let j : tag_of the_type a ≡ tag_of the_type b = omega (arith, place_is a, place_is b) in
    true≢false (sym (eq-eqb (tag_of the_type a) (tag_of the_type b) j) ∙ e)

-- ---- which of two variants stands first

-- two values of one variant are equal
abbrev Alike : (Fss : List (List Field)) → Each (Option Ordering) Fss → Type 0
Alike [] each = Unit {0}
Alike (Fs ∷ Fss) each = ((x y : Values Fs) → each.0 x y ≡ Some Equal) × Alike Fss each.1

-- which variant it is
at : (Fss : List (List Field)) → Choice Fss → ℕ
at [] c = absurd c
at (Fs ∷ Fss) (inl x) = 0
at (Fs ∷ Fss) (inr c) = suc (at Fss c)

later : (Fss : List (List Field)) (each : Each (Option Ordering) Fss) → Alike Fss each → (c d : Choice Fss)
    → is_some_and is_gt (by (Some Less) (Some Greater) Fss each c d) ≡ true → at Fss d < at Fss c
unfolding at
later [] each q c d e = absurd c
later (Fs ∷ Fss) each q (inl x) (inl y) e = absurd (true≢false (sym (rw (q.0 x y) at e)))
later (Fs ∷ Fss) each q (inl x) (inr y) e = absurd (true≢false (sym e))
later (Fs ∷ Fss) each q (inr x) (inl y) e = omega arith
later (Fs ∷ Fss) each q (inr x) (inr y) e = omega (arith, later Fss each.1 q.1 x y e)

no_later : (Fss : List (List Field)) (each : Each (Option Ordering) Fss) → Alike Fss each → (c d : Choice Fss)
    → is_some_and is_gt (by (Some Less) (Some Greater) Fss each c d) ≡ false → at Fss c ≤ at Fss d
unfolding at
no_later [] each q c d e = absurd c
no_later (Fs ∷ Fss) each q (inl x) d e = omega arith
no_later (Fs ∷ Fss) each q (inr x) (inl y) e = absurd (true≢false e)
no_later (Fs ∷ Fss) each q (inr x) (inr y) e = omega (arith, no_later Fss each.1 q.1 x y e)

at_is : (m : Mark) → place m ≡ suc (at the_parts (as_values m))
unfolding at
at_is mark.Paper = refl
at_is mark.Landscape = refl
at_is mark.Margins = refl
at_is mark.Percent = refl
at_is mark.FitWidth = refl
at_is mark.FitHeight = refl
at_is mark.Fit = refl
at_is mark.Order = refl
at_is mark.Headings = refl
at_is mark.PageLimit = refl
at_is mark.CellLimit = refl
at_is mark.Area = refl
at_is mark.RowTitle = refl
at_is mark.ColumnTitle = refl
at_is mark.Row = refl
at_is mark.Column = refl
at_is mark.Merge = refl
at_is mark.RowBreak = refl
at_is mark.ColumnBreak = refl
at_is mark.End = refl

pub later_place : (a b : Mark) → partial_gt partial_cmp-value.it a b ≡ true → place b < place a
later_place a b e =
    omega (arith, later the_parts _ (search) (as_values a) (as_values b) e, at_is a, at_is b)

pub no_later_place : (a b : Mark) → partial_gt partial_cmp-value.it a b ≡ false → place a ≤ place b
no_later_place a b e =
    omega (arith, no_later the_parts _ (search) (as_values a) (as_values b) e, at_is a, at_is b)

-- a test of an order as one of places
pub later_is : (a b : Mark) → partial_gt partial_cmp-value.it a b ≡ ltb (place b) (place a)
later_is a b = go (partial_gt partial_cmp-value.it a b) refl
  where
    go : (x : Bool) → partial_gt partial_cmp-value.it a b ≡ x → x ≡ ltb (place b) (place a)
    go true e = sym (lt-ltb (place b) (place a) (later_place a b e))
    go false e = sym (le-ltb (place b) (place a) (no_later_place a b e))

-- and one of an equality
pub same_is : (a b : Mark) → sameb the_type a b ≡ eqb (place a) (place b)
same_is a b = go (sameb the_type a b) refl
  where
    go : (x : Bool) → sameb the_type a b ≡ x → x ≡ eqb (place a) (place b)
    go true e = sym (eq-eqb (place a) (place b) (same_place a b e))
    go false e = sym (ne_eqb (place a) (place b) (other_place a b e))

pub some_place : (m : Mark) → 0 < place m
some_place m = omega (arith, at_is m)
