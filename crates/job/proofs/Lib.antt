-- Laws that belong to no one function.
pub mod ReadLaws
pub mod Agreement
pub mod CountedAreas
pub mod Refusals
