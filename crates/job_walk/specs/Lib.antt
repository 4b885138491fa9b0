-- What the contracts of `job_walk` cite: how the records are walked, and the areas and the limits.
pub mod Walk
pub mod Areas
