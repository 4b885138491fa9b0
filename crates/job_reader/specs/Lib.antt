-- What the contracts of `job_reader` cite: the settings, a job read to lent lists, and how the private functions walk the records.
pub mod Settings
pub mod Walk
pub mod Reading
