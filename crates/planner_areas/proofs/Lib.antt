-- Laws that the proofs of the crate's functions cite, and what the definition of the union comes to.
mod Edges
mod Totals
pub mod Cases
