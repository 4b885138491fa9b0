-- What contracts cite, here and in the crates that cut, plan and page: a file for each section of document 01, what they share, and the words of demand 3.
pub mod Slots
pub mod Questions
pub mod Areas
pub mod Union
pub mod Titles
pub mod Runs
pub mod Lent
pub mod Partition
pub mod Scale
pub mod Pages
pub mod Plan
pub mod Asked
pub mod Steps
pub mod Division
pub mod Fitting
pub mod Demand
