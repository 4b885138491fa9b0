-- Laws that belong to no one function.
pub mod WalkLaws
pub mod Lent
pub mod ReadingLaws
pub mod ItemRoom
