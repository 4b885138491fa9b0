-- Laws that belong to no one function.
pub mod Constants
pub mod Sheets
pub mod Floats
pub mod ContentLaws
pub mod MarginLaws
