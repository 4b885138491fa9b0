-- What a call answers: a value, or a refusal with document 01's number ("Questions in order"). Assumes nothing.
use Rattle.std.specs.Prelude.{ℕ}

pub data Outcome (A : Type 0) : Type 0 where
  given : A → Outcome A
  refused : ℕ → Outcome A

-- what is made of a value that was given; a refusal stays
abbrev pub and_then : {A B : Type 0} → Outcome A → (A → Outcome B) → Outcome B
and_then (given a) f = f a
and_then (refused n) f = refused n
