-- What the contracts of `units` and of the crates above it cite: document 01's section "Units", over `Outcome`, and the grid.
pub mod Outcome
pub mod Refusals
pub mod Units
pub mod Grid
mod Figures
