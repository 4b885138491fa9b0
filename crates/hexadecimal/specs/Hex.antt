-- Hexadecimal digits in ASCII, and the number that a row of them stands for. Assumes nothing.
use Rattle.std.specs.Prelude.{cond, List, [], ◌∷◌, ℕ, ◌+◌, ◌-◌, ◌*◌, ◌%◌, ◌^◌, leb, ltb, Option, None, Some}
use Rattle.std.specs.Option.{unwrap_or}

-- `0` to `9` are 48 to 57, `a` to `f` are 97 to 102; any other byte is no digit
unfoldable pub digit_of : ℕ → Option ℕ
digit_of b = cond (ltb b 48) None (cond (leb b 57) (Some (b - 48)) (cond (ltb b 97) None (cond (leb b 102) (Some (b - 97 + 10)) None)))

-- the last 64 bits of the number v followed by the digits; a byte that is no digit stands for 0
unfoldable pub number : ℕ → List ℕ → ℕ
number v [] = v
number v (d ∷ ds) = number ((v * 16 + unwrap_or (digit_of d) 0 % 16) % 2 ^ 64) ds
