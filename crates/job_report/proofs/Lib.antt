-- Laws that belong to no one function.
pub mod DecimalLaws
pub mod TextLaws
pub mod SpotLaws
pub mod BlockLaws
pub mod WholeLaws
