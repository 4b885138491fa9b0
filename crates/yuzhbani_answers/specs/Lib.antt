-- What the contracts of `yuzhbani_answers` cite.
pub mod Numbers
pub mod Answers
