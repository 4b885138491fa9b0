-- What the contracts of `hexadecimal` cite.
pub mod Hex
