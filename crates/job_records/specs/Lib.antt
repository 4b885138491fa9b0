-- What the contracts of `job_records` cite: numbers, marks and records in bytes.
pub mod LittleEndian
pub mod Marks
pub mod Records
pub mod Areas
