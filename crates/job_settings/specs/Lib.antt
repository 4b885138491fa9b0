-- What the contracts of `job_settings` cite.
pub mod Meaning
