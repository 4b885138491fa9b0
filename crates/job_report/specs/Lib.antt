-- What the contracts of `job_report` cite, and the theorems over them.
pub mod Lines
pub mod Blocks
pub mod Report
pub mod Figures
