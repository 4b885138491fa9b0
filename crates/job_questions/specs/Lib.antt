-- What the contracts of `job_questions` cite: the questions, and what one pass over the records carries.
pub mod Verdict
pub mod Pass
