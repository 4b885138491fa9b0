-- The worked figures of document 01, section "Paper and content", and of document 02, T-01, computed from the definitions. Assumes nothing.
use Rattle.std.specs.Prelude.{◌≡◌, ℕ, Bool, true, false, List, [], ◌∷◌, map, pos, negsuc, refl, Some, None}
use Rattle.std.specs.Float.Ieee.{mul, add, div, lt, of_int, le, eq, round}
use Rattle.units.specs.Outcome.{Outcome, given}
use Rattle.units.specs.Units.{inches_to_fixed, in_i64}
use Rattle.geometry.specs.Paper.{PaperFound, decimal, paper_geometry, content_geometry, content_between, margins_hold}
use Rattle.geometry.specs.Paper.{default_margins, resolved, sheets, letter}

-- the answer to some codes, upright or turned
abbrev answers : Bool → List ℕ → List (Outcome PaperFound)
answers landscape = map (λ (n : ℕ). paper_geometry (Some n) landscape)

-- a paper that is answered: its code, its sides and its note
abbrev paper : ℕ → ℕ → ℕ → ℕ → Outcome PaperFound
paper n w h u = given (record { code = n; width = pos w; height = pos h; unknown = u })

-- "absent means 1"; "Letter is 835,584 by 1,081,344"
letter_size : paper_geometry None false ≡ paper 1 835584 1081344 0
unfolding paper_geometry resolved sheets letter inches_to_fixed mul of_int round
letter_size = refl

-- "A4 (code 9) 812,750 by 1,149,460", turned; document 02, T-01, turned: "34 by 44 inches"
turned_sizes : answers true (9 ∷ 26 ∷ []) ≡ paper 9 1149460 812750 0 ∷ paper 26 4325376 3342336 0 ∷ []
unfolding paper_geometry resolved sheets letter inches_to_fixed mul of_int round div
turned_sizes = refl

-- document 02, T-01: "codes 12 and 13 follow ECMA-376: 250 by 353 and 176 by 250 mm. Codes 24, 25 and 26 become 17 by 22, 22 by 34 and 34 by 44
-- inches instead of falling back. For these five codes ECMA-376's list decides": 43 stays the Rust's 100 by 148 mm, and 33, which the Rust lacks,
-- falls back
five_papers : answers false (12 ∷ 13 ∷ 24 ∷ 25 ∷ 26 ∷ 43 ∷ 33 ∷ []) ≡
    paper 12 967559 1366193 0 ∷ paper 13 681162 967559 0 ∷ paper 24 1671168 2162688 0 ∷ paper 25 2162688 3342336 0 ∷ paper 26 3342336 4325376 0
    ∷ paper 43 387024 572795 0 ∷ paper 1 835584 1081344 1 ∷ []
unfolding paper_geometry resolved sheets letter inches_to_fixed mul of_int round div
five_papers = refl

-- "Letter with defaults: x 68,813, y 73,728, width 697,958, height 933,888, header at 29,491, footer at 1,035,469."
letter_content : content_geometry (pos 835584) (pos 1081344) None
    ≡ given (record { x = pos 68813; y = pos 73728; width = pos 697958; height = pos 933888; header = pos 29491; footer = pos 1035469; invalid = 0 })
unfolding content_geometry content_between default_margins inches_to_fixed mul of_int round in_i64
letter_content = refl

-- "Left 4.25 with right 4.25 on Letter does not hold."
half_and_half : margins_hold (pos 835584) (pos 1081344)
    (record { left = decimal 425 100; right = decimal 425 100; top = decimal 0 1; bottom = decimal 0 1; header = decimal 0 1; footer = decimal 0 1 }) ≡ false
unfolding margins_hold mul add div of_int round lt le eq
half_and_half = refl

-- margins are judged against the paper of T-01: left 3.5 with right 3.5 inches hold on 182 mm, and not on its 176
three_and_a_half : margins_hold (pos 681162) (pos 967559)
    (record { left = decimal 35 10; right = decimal 35 10; top = decimal 0 1; bottom = decimal 0 1; header = decimal 0 1; footer = decimal 0 1 }) ≡ false
unfolding margins_hold mul add div of_int round lt le eq
three_and_a_half = refl

-- "footer 10.99 on Letter gives -15,401"
low_footer : content_geometry (pos 835584) (pos 1081344)
    (Some
    (record { left = decimal 0 1; right = decimal 0 1; top = decimal 0 1; bottom = decimal 0 1; header = decimal 0 1; footer = decimal 1099 100 }))
    ≡ given (record { x = pos 0; y = pos 0; width = pos 835584; height = pos 1081344; header = pos 0; footer = negsuc 15400; invalid = 0 })
unfolding content_geometry content_between margins_hold inches_to_fixed mul add div of_int round lt le eq in_i64
low_footer = refl
