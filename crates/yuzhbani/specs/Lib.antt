-- What the contracts of `yuzhbani` cite.
pub mod Calls
