-- Laws that belong to no one function.
pub mod NumberLaws
pub mod MarkLaws
pub mod RecordLaws
