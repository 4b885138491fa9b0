-- Little-endian numbers in a list of bytes (document 01, "Jobs"). A byte past the end counts as 0. Assumes nothing.
use Rattle.std.specs.Prelude.{ℕ, ◌+◌, ◌*◌, List, get_or, ℤ, Float}
use Rattle.std.specs.Float.{binary64}
use Rattle.std.specs.Float.Ieee.{of_bits}
use Rattle.std.specs.Int.{w64}
use Rattle.std.proofs.Common.{to_z}

-- "u16", "Little-endian"
abbrev pub u16_at : List ℕ → ℕ → ℕ
u16_at s at = get_or s at 0 + 256 * get_or s (at + 1) 0

-- "u32"
abbrev pub u32_at : List ℕ → ℕ → ℕ
u32_at s at = u16_at s at + 65536 * u16_at s (at + 2)

-- "u64"
abbrev pub u64_at : List ℕ → ℕ → ℕ
u64_at s at = u32_at s at + 4294967296 * u32_at s (at + 4)

-- "i64": the signed number that 64 bits stand for
unfoldable pub i64_of : ℕ → ℤ
i64_of n = to_z w64 n

-- "f64": the float that 64 bits stand for; every NaN pattern is the one NaN
unfoldable pub f64_of : ℕ → Float
f64_of n = of_bits binary64 n
