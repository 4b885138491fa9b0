-- What the contracts of `geometry` cite: document 01's section "Paper and content".
pub mod Paper
mod Figures
pub mod Lengths
