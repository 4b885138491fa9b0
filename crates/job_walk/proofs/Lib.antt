-- Laws that belong to no one function.
pub mod WalkLaws
pub mod Arms
